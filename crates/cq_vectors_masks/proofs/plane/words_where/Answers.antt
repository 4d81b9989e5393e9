use Rattle.std.proofs.Common.{arith}
use Rattle.cq_vectors_masks.proofs.BlockLemmas.{answers_set}
use Rattle.cq_vectors_masks.proofs.plane.words_where.Goals as goal

pub returns : goal.returns
returns g c = answers_set (g.T.PlaceTest.holds c.args.test.now) c.args.len c.loop-k.to (λ k lt. c.loop-k.invariant k (omega arith))
