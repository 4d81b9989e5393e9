use Rattle.std.proofs.Common.{arith, eqb, w16}
use Rattle.cq_prims_lanes.proofs.OffsetLanes.{offset_answers}
use Rattle.cq_prims_lanes.proofs.offset.U16OffsetLanes.sixteen_equal.Goals as goal

pub returns : goal.returns
returns c = offset_answers w16 eqb 16 (omega arith) c.args.offsets.now c.args.from c.args.number c.requires.there
