use Rattle.std.proofs.Common.{◌∙◌, ap, length}
use Rattle.std.proofs.lemmas.List.{length-map}
use Rattle.cq_values.specs.Order.{number}
use Rattle.cq_prims_arithmetic.proofs.SideLemmas.{side-numbers}
use Rattle.cq_prims_arithmetic.proofs.taker.give_side.Goals as goal

pub take-requires : goal.take-requires
take-requires g c =
    let column = c.in-Some.column in
    side-numbers c.values-values.result.now c.nulls.result.now (g.K.Taker.values c.args.taker.now) column (c.in-Some.ensures ∙ c.requires) c.values-values.ensures.whole c.nulls.ensures
    (ap length c.values-values.ensures.values ∙ length-map column number)
