use Rattle.std.proofs.Common.{ap, ◌∙◌}
use Rattle.std.specs.List.{prefix_len}
use Rattle.cq_sql_language.specs.Characters.{is_digit}
use Rattle.cq_sql_tokens.proofs.Boundaries.{after_prefix, digit_is_ascii}
use Rattle.cq_sql_tokens.proofs.Prefixes.{prefix_passes}
use Rattle.cq_sql_tokens.proofs.words.number_at.Goals as goal

pub split_at-requires : goal.split_at-requires
split_at-requires c =
    after_prefix is_digit c.args.text.now c.digits_len.result digit_is_ascii c.utf8.text (c.digits_len.ensures ∙ ap (prefix_len is_digit) c.as_bytes.ensures.value)

pub number_of-requires : goal.number_of-requires
number_of-requires c =
    let len = c.digits_len.ensures ∙ ap (prefix_len is_digit) c.as_bytes.ensures.value in
    rw (c.as_bytes-3.ensures.value, c.split_at.ensures.front, len) (prefix_passes is_digit c.args.text.now)
