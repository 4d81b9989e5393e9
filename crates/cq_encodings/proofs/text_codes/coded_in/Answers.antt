use Rattle.std.proofs.Common.{◌∙◌, List, subst, sym, ℕ}
use Rattle.cq_encodings.specs.Texts.{IsFirst}
use Rattle.cq_vectors_stored.specs.Columns.{texts_of}
use Rattle.cq_encodings.proofs.TextCodes.{coded_texts, first_known, same_codes, text_dict}
use Rattle.cq_encodings.proofs.text_codes.coded_in.Goals as goal

pub write_codes-requires-clause-first : goal.write_codes-requires-clause-first
write_codes-requires-clause-first g c =
    let texts = c.args.texts.now in
    let first = c.in-Some.ensures.item in
    subst (λ (known : List (List ℕ)). IsFirst known (texts_of texts)) (sym c.in_ok-known.ensures) (first_known texts c.in-Some.first.now first.3.0 first.1)

pub of_parts-requires : goal.of_parts-requires
of_parts-requires g c =
    let run = rw c.in-Some-2.is at c.in_ok-entries.ensures in
    let codes = c.from_widths-codes.result in
    let are = same_codes c.write_codes.new.known c.in-Some-2.entries (g.W.FixedWidth.numbers c.write_codes.new.to) codes (texts_of c.args.texts.now)
    (run ∙ c.texts.ensures) (c.from_widths-codes.ensures ∙ c.into_widths.ensures) (c.in_ok-write_codes.ensures c.if-not-branch.false) in
    text_dict c.in-Some-2.entries codes c.in_ok-nulls.nulls c.args.texts.now c.in_ok-nulls.ensures are

pub returns : goal.returns
returns g c =
    let run = rw c.in-Some-2.is at c.in_ok-entries.ensures in
    let codes = c.from_widths-codes.result in
    let are = same_codes c.write_codes.new.known c.in-Some-2.entries (g.W.FixedWidth.numbers c.write_codes.new.to) codes (texts_of c.args.texts.now)
    (run ∙ c.texts.ensures) (c.from_widths-codes.ensures ∙ c.into_widths.ensures) (c.in_ok-write_codes.ensures c.if-not-branch.false) in
    c.of_parts.ensures ∙ coded_texts c.in-Some-2.entries codes c.in_ok-nulls.nulls c.args.texts.now c.in_ok-nulls.ensures are
