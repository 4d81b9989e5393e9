use Rattle.std.proofs.Common.{◌∙◌, get_or, leb}
use Rattle.cq_prims_lanes.proofs.OffsetTests.{by_places}
use Rattle.cq_prims_lanes.proofs.offsets_up_to.set_up_to.Goals as goal

pub returns : goal.returns
returns g c =
    let offsets = g.T.Offset.numbers c.args.offsets.now in
    c.set_known_by.ensures
    ∙ by_places offsets c.args.nulls.now c.requires (λ o. leb o c.least-last.result) (λ o. leb o c.args.last) (λ k. c.least-last.ensures.same (get_or offsets k 0) (c.greatest_of.ensures.above k))
