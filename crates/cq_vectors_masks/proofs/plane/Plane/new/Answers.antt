use Rattle.std.proofs.Common.{arith}
use Rattle.cq_vectors_masks.proofs.PlaneLemmas.{none_set}
use Rattle.cq_vectors_masks.proofs.plane.Plane.new.Goals as goal

pub invariant_of-result : goal.invariant_of-result
invariant_of-result c = (omega arith, none_set 16)
