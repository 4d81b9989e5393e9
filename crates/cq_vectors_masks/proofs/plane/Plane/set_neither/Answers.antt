use Rattle.cq_vectors_masks.specs.Plane.{neither}
use Rattle.cq_vectors_masks.proofs.PlaneLemmas.{Packs-below}
use Rattle.cq_vectors_masks.proofs.plane.Plane.set_neither.Goals as goal

pub invariant_of-self : goal.invariant_of-self
invariant_of-self c = (Packs-below neither _ _ _ _ _ c.neither_words.array_long c.neither_words.ensures c.requires c.a.invariant c.b.invariant c.a.view_is c.b.view_is).0

pub returns : goal.returns
returns c = (Packs-below neither _ _ _ _ _ c.neither_words.array_long c.neither_words.ensures c.requires c.a.invariant c.b.invariant c.a.view_is c.b.view_is).1
