use Rattle.std.proofs.Common.{◌∙◌, ◌<◌, ◌≡◌, [], ap, arith, get_or, length, sym}
use Rattle.cq_values.specs.declared.value.Value.TheVariants.{Null}
use Rattle.cq_values.specs.declared.value.Value.{Value}
use Rattle.std.proofs.Common.{List}
use Rattle.cq_vectors_stored.specs.Columns.{text_unless}
use Rattle.cq_vectors_stored.specs.LentColumns.{part_of}
use Rattle.cq_vectors_stored.proofs.LentLemmas.{length-part_of, part_of-at, value_there}
use Rattle.cq_vectors_stored.proofs.run_texts.RunTexts.lend.Goals as goal

pub returns-then-not-get : goal.returns-then-not-get
returns-then-not-get c =
    let inside = c.self.inside in
    let flags = inside.nulls.now in
    let kept = c.self.invariant in
    let texts = part_of inside.texts.now inside.start (length flags) in
    let lt : c.args.place < length flags = omega (arith, c.if-place-len.true, c.len.ensures.len) in
    let long : length texts ≡ length flags = length-part_of inside.texts.now inside.start (length flags) kept.1.there in
    let is = c.get-then-not-get.ensures ∙ sym (part_of-at inside.texts.now inside.start (length flags) c.args.place kept.1.there lt) in
    value_there text_unless [] texts flags c.args.place c.get-then-not-get.result.now kept.0 (omega (arith, lt, long)) is (sym c.get.ensures ∙ c.if-not-get.true)
    ∙ ap (λ (vs : List Value). get_or vs c.args.place Null) c.self.view_is
