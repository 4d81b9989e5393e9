use Rattle.std.proofs.Common.{arith}
use Rattle.cq_prims_lanes.proofs.offset.U32Offset.greatest_of.Goals as goal

pub returns-clause-above : goal.returns-clause-above
returns-clause-above c = λ k. omega (arith, c.type_inv._offsets k)
