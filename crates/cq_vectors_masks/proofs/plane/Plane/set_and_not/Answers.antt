use Rattle.std.proofs.Common.{refl}
use Rattle.cq_vectors_masks.specs.Plane.{and_not}
use Rattle.cq_vectors_masks.proofs.PlaneLemmas.{combined}
use Rattle.cq_vectors_masks.proofs.plane.Plane.set_and_not.Goals as goal

pub invariant_of-self : goal.invariant_of-self
invariant_of-self c = (combined and_not refl _ _ _ _ _ c.and_not_words.array_long c.and_not_words.ensures c.requires c.a.invariant c.b.invariant c.a.view_is c.b.view_is).0

pub returns : goal.returns
returns c = (combined and_not refl _ _ _ _ _ c.and_not_words.array_long c.and_not_words.ensures c.requires c.a.invariant c.b.invariant c.a.view_is c.b.view_is).1
