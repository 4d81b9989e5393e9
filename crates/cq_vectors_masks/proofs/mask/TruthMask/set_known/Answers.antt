use Rattle.cq_vectors_masks.proofs.MaskLemmas.{shown, Shows-same, Shows-known}
use Rattle.cq_vectors_masks.proofs.mask.TruthMask.set_known.Goals as goal

pub invariant_of-self : goal.invariant_of-self
invariant_of-self c = (shown (Shows-same c.set_and_not.ensures c.set_neither.ensures (Shows-known c.args.answers.now c.args.nulls.now))).0

pub returns : goal.returns
returns c = (shown (Shows-same c.set_and_not.ensures c.set_neither.ensures (Shows-known c.args.answers.now c.args.nulls.now))).1
