use Rattle.std.proofs.Common.{◌∙◌, ap, get_or, Option, ℕ}
use Rattle.cq_vectors_stored.specs.Offsets.{offsets_in}
use Rattle.cq_prims_lanes.specs.UpTo.{is_up_to}
use Rattle.cq_prims_lanes.proofs.OffsetTests.{by_none}
use Rattle.cq_prims.proofs.narrow_side.NarrowSide.set_up_to.Goals as goal

pub returns-in-None : goal.returns-in-None
returns-in-None c =
    let side = c.args.self.now in
    let offsets = offsets_in side.offsets in
    c.set_never.ensures ∙ by_none (is_up_to c.args.last) offsets side.nulls.now side.same (λ k. ap (λ (last : Option ℕ). is_up_to last (get_or offsets k 0)) c.in-None.is)
