use Rattle.std.proofs.Common.{◌<◌, ◌++◌, [], ◌∷◌, length, ap₂, sym, ◌∙◌, arith}
use Rattle.std.proofs.lemmas.List.{take_all}
use Rattle.cq_values.specs.declared.value.Value.{Value}
use Rattle.cq_values.specs.Value.{Row}
use Rattle.cq_model.specs.Write.{image_of}
use Rattle.cq_table.proofs.Setting.{length_with_set, take_column}
use Rattle.cq_table.proofs.images.image.Goals as goal

pub loop-place-preserved : goal.loop-place-preserved
loop-place-preserved c =
    let image = image_of c.args.assignments.now c.args.old.now in
    let lt : c.loop-place.place < length image = omega (arith, c.loop-place-test.true, length_with_set c.args.assignments.now c.args.old.now c.args.old.now) in
    c.in_ok-push.ensures.ok
    ∙ ap₂ (λ (r : Row) (v : Value). r ++ v ∷ []) c.loop-place.invariant (c.in_ok-to_value.ensures ∙ c.value_at.ensures)
    ∙ sym (take_column image c.loop-place.place lt)

pub returns : goal.returns
returns c =
    let image = image_of c.args.assignments.now c.args.old.now in
    c.loop-place.invariant ∙ take_all c.loop-place.place image (omega (arith, c.loop-place-test.false, length_with_set c.args.assignments.now c.args.old.now c.args.old.now))
