use Rattle.cq_vectors_masks.proofs.MaskLemmas.{shown, Shows-same, Shows-not}
use Rattle.cq_vectors_masks.proofs.mask.TruthMask.negate.Goals as goal

pub invariant_of-self : goal.invariant_of-self
invariant_of-self c = (shown (Shows-same c.swap.ensures.x_after c.swap.ensures.y_after (Shows-not c.self.invariant))).0

pub returns : goal.returns
returns c = rw (← c.self.view_is) ((shown (Shows-same c.swap.ensures.x_after c.swap.ensures.y_after (Shows-not c.self.invariant))).1)
