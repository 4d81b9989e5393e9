use Rattle.std.proofs.Common.{arith}
use Rattle.std.specs.Int.RustNames.{bit_or}
use Rattle.cq_vectors_masks.specs.Plane.{either}
use Rattle.cq_vectors_masks.proofs.PlaneLemmas.{Makes-words, Does-or}
use Rattle.cq_vectors_masks.proofs.plane.or_words.Goals as goal

pub returns : goal.returns
returns c = Makes-words bit_or either Does-or c.args.to.now c.args.other.now c.loop-k.words (λ k lt. c.loop-k.invariant.1 k (omega arith))
