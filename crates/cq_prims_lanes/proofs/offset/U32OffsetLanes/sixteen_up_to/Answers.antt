use Rattle.std.proofs.Common.{arith, leb, w32}
use Rattle.cq_prims_lanes.proofs.OffsetLanes.{offset_answers}
use Rattle.cq_prims_lanes.proofs.offset.U32OffsetLanes.sixteen_up_to.Goals as goal

pub returns : goal.returns
returns c = offset_answers w32 leb 16 (omega arith) c.args.offsets.now c.args.from c.args.number c.requires.there
