use Rattle.std.proofs.Common.{refl}
use Rattle.cq_vectors_masks.specs.Plane.{both}
use Rattle.cq_vectors_masks.proofs.PlaneLemmas.{combined}
use Rattle.cq_vectors_masks.proofs.plane.Plane.and_with.Goals as goal

pub invariant_of-self : goal.invariant_of-self
invariant_of-self c = (combined both refl _ _ _ _ _ c.and_words.array_long c.and_words.ensures c.requires c.self.invariant c.other.invariant c.self.view_is c.other.view_is).0

pub returns : goal.returns
returns c = (combined both refl _ _ _ _ _ c.and_words.array_long c.and_words.ensures c.requires c.self.invariant c.other.invariant c.self.view_is c.other.view_is).1
