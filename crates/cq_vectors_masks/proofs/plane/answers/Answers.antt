use Rattle.std.proofs.Common.{◌∙◌, ap, bit_or}
use Rattle.cq_vectors_masks.proofs.BlockLemmas.{answer_more}
use Rattle.cq_vectors_masks.proofs.plane.answers.Goals as goal

pub loop-i-preserved : goal.loop-i-preserved
loop-i-preserved g c = ap (bit_or c.loop-i.word) (rw c.at.ensures at c.flag_bit-word.ensures) ∙ answer_more (g.T.PlaceTest.holds c.args.test.now) c.args.from c.loop-i.i c.loop-i.word c.loop-i.invariant
