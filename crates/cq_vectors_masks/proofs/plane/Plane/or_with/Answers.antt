use Rattle.std.proofs.Common.{refl}
use Rattle.cq_vectors_masks.specs.Plane.{either}
use Rattle.cq_vectors_masks.proofs.PlaneLemmas.{combined}
use Rattle.cq_vectors_masks.proofs.plane.Plane.or_with.Goals as goal

pub invariant_of-self : goal.invariant_of-self
invariant_of-self c = (combined either refl _ _ _ _ _ c.or_words.array_long c.or_words.ensures c.requires c.self.invariant c.other.invariant c.self.view_is c.other.view_is).0

pub returns : goal.returns
returns c = (combined either refl _ _ _ _ _ c.or_words.array_long c.or_words.ensures c.requires c.self.invariant c.other.invariant c.self.view_is c.other.view_is).1
