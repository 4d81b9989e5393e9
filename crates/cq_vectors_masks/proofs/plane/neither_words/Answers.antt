use Rattle.cq_vectors_masks.proofs.PlaneLemmas.{MakesBelow-words}
use Rattle.std.proofs.Common.{arith}
use Rattle.cq_vectors_masks.proofs.plane.neither_words.Goals as goal

pub returns : goal.returns
returns c = MakesBelow-words c.args.len c.args.a.now c.args.b.now c.loop-k.words (λ k lt. c.loop-k.invariant.1 k (omega arith))
