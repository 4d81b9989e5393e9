use Rattle.std.proofs.Common.{arith}
use Rattle.std.specs.Int.RustNames.{bit_and}
use Rattle.cq_vectors_masks.specs.Plane.{both}
use Rattle.cq_vectors_masks.proofs.PlaneLemmas.{Makes-words, Does-and}
use Rattle.cq_vectors_masks.proofs.plane.and_words.Goals as goal

pub returns : goal.returns
returns c = Makes-words bit_and both Does-and c.args.to.now c.args.other.now c.loop-k.words (λ k lt. c.loop-k.invariant.1 k (omega arith))
