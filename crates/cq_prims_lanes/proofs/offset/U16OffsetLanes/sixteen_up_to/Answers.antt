use Rattle.std.proofs.Common.{arith, leb, w16}
use Rattle.cq_prims_lanes.proofs.OffsetLanes.{offset_answers}
use Rattle.cq_prims_lanes.proofs.offset.U16OffsetLanes.sixteen_up_to.Goals as goal

pub returns : goal.returns
returns c = offset_answers w16 leb 16 (omega arith) c.args.offsets.now c.args.from c.args.number c.requires.there
