use Rattle.std.proofs.Common.{◌∙◌, ◌∷◌, ◌++◌, [], ap, ap₂, arith, map, sym}
use Rattle.std.proofs.lemmas.List.{get_or-map, length-map, replicate_more, take_more}
use Rattle.cq_values.specs.Lent.{owned}
use Rattle.cq_values.specs.declared.value.Value.TheVariants.{Null}
use Rattle.cq_encodings_vectors.proofs.narrow.first_value.Goals as goal

pub loop-value-preserved : goal.loop-value-preserved
loop-value-preserved c =
    let lent = c.args.lent.now in
    let i = c.loop-value.value-index in
    let there = get_or-map owned lent i c.value-item.result Null c.loop-value-test.true ∙ ap owned (sym c.value-item.is ∙ c.in-Null.is) in
    take_more (map owned lent) i Null (omega (arith, c.loop-value-test.true, length-map lent owned)) ∙ ap₂ (λ l v. l ++ v ∷ []) c.loop-value.invariant there ∙ replicate_more i Null
