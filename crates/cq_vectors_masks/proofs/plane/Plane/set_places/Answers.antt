use Rattle.std.proofs.Common.{◌∙◌, ap, arith, get_or, false, length}
use Rattle.cq_vectors_masks.specs.Walk.{all_places}
use Rattle.std.proofs.lemmas.List.Elements.{filter_agree}
use Rattle.cq_vectors_masks.proofs.PlaneLemmas.{length-flags}
use Rattle.cq_vectors_masks.proofs.plane.Plane.set_places.Goals as goal

pub returns-clause-places : goal.returns-clause-places
returns-clause-places c = c.walk_words.ensures.places ∙ filter_agree _ _ (λ i. c.self.invariant.1 i ∙ ap (λ l. get_or l i false) c.self.view_is) all_places

pub returns-clause-whole : goal.returns-clause-whole
returns-clause-whole c =
    let p = c.self.inside in
    omega (arith, c.self.invariant.0, length-flags p.words p.len, ap length c.self.view_is)
