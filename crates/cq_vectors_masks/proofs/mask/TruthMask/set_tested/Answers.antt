use Rattle.cq_vectors_masks.proofs.MaskLemmas.{shown, Shows-same, Shows-tested}
use Rattle.cq_vectors_masks.proofs.mask.TruthMask.set_tested.Goals as goal

pub invariant_of-self : goal.invariant_of-self
invariant_of-self c = (shown (Shows-same c.set_copy.ensures c.set_neither.ensures (Shows-tested c.args.answers.now))).0

pub returns : goal.returns
returns c = (shown (Shows-same c.set_copy.ensures c.set_neither.ensures (Shows-tested c.args.answers.now))).1
