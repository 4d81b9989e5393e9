use Rattle.std.proofs.Common.{◌≡◌, ℕ, true, List, take, ap, sym, ◌∙◌, rules}
use Rattle.std.specs.List.{prefix_len}
use Rattle.cq_sql_language.specs.Characters.{is_digit, is_word_byte, begins}
use Rattle.cq_sql_language.specs.Tokens.{decimal}
use Rattle.cq_sql_tokens.proofs.Boundaries.{after_prefix, digit_is_ascii}
use Rattle.cq_sql_tokens.proofs.Numbers.{number_no_gap, small_number_token}
use Rattle.cq_sql_tokens.proofs.words.small_number_at.Goals as goal

pub range_from-after-requires : goal.range_from-after-requires
range_from-after-requires c =
    λ _. after_prefix is_digit c.args.text.now c.in_ok-number.len digit_is_ascii c.utf8.text (c.in_ok-number.ensures.0 ∙ ap (prefix_len is_digit) c.as_bytes-2.ensures.value)

pub returns-clause-gap : goal.returns-clause-gap
returns-clause-gap c =
    let digit : begins is_digit c.args.text.now ≡ true = sym (ap (begins is_digit) c.as_bytes.ensures.value) ∙ sym c.begins_digit.ensures ∙ c.if-not-begins_digit.false in
    number_no_gap c.args.text.now digit

pub returns-clause-token : goal.returns-clause-token
returns-clause-token c =
    let digit : begins is_digit c.args.text.now ≡ true = sym (ap (begins is_digit) c.as_bytes.ensures.value) ∙ sym c.begins_digit.ensures ∙ c.if-not-begins_digit.false in
    small_number_token c.args.text.now c.range_from-after.result.now c.in_ok-number.number c.in_ok-number.len digit
    (c.in_ok-number.ensures.0 ∙ ap (prefix_len is_digit) c.as_bytes-2.ensures.value)
    (c.in_ok-number.ensures.1 ∙ ap (λ (xs : List ℕ). decimal (take c.in_ok-number.len xs)) c.as_bytes-2.ensures.value)
    c.in_ok-number.ensures.2
    (search rules)
    (sym (ap (begins is_word_byte) c.as_bytes-3.ensures.value) ∙ sym c.begins_word_byte.ensures ∙ c.if-begins_word_byte.false)
