use Rattle.cq_vectors_masks.proofs.MaskLemmas.{shown, Shows-same, Shows-or, same_lengths}
use Rattle.cq_vectors_masks.proofs.mask.TruthMask.or_with.Goals as goal

pub or_with-requires : goal.or_with-requires
or_with-requires c = (same_lengths c.self.invariant c.other.invariant (rw (c.self.view_is, c.other.view_is) c.requires)).0

pub and_with-requires : goal.and_with-requires
and_with-requires c = (same_lengths c.self.invariant c.other.invariant (rw (c.self.view_is, c.other.view_is) c.requires)).1

pub invariant_of-self : goal.invariant_of-self
invariant_of-self c = (shown (Shows-same c.or_with.ensures c.and_with.ensures (Shows-or c.self.invariant c.other.invariant))).0

pub returns : goal.returns
returns c = rw (← c.self.view_is, ← c.other.view_is) ((shown (Shows-same c.or_with.ensures c.and_with.ensures (Shows-or c.self.invariant c.other.invariant))).1)
