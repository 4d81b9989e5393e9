use Rattle.std.proofs.Common.{arith, w64}
use Rattle.std.specs.Int.{bit_not}
use Rattle.std.specs.Int.RustNames.{bit_and}
use Rattle.cq_vectors_masks.specs.Plane.{and_not}
use Rattle.cq_vectors_masks.proofs.PlaneLemmas.{Makes-words, Does-and_not}
use Rattle.cq_vectors_masks.proofs.plane.and_not_words.Goals as goal

pub returns : goal.returns
returns c = Makes-words (λ x y. bit_and x (bit_not w64 y)) and_not Does-and_not c.args.a.now c.args.b.now c.loop-k.words (λ k lt. c.loop-k.invariant.1 k (omega arith))
