use Rattle.std.proofs.Common.{arith}
use Rattle.cq_vectors_masks.proofs.SelectionLemmas.{count_step}
use Rattle.cq_vectors_masks.proofs.selection.count_up.Goals as goal

pub loop-i-preserved : goal.loop-i-preserved
loop-i-preserved c = count_step c.loop-i.to c.loop-i.i (omega arith) c.loop-i.invariant
