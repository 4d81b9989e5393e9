use Rattle.std.proofs.Common.{◌∙◌}
use Rattle.cq_vectors_masks.specs.Walk.{all_places}
use Rattle.std.proofs.lemmas.List.Elements.{filter_agree}
use Rattle.cq_vectors_masks.proofs.MaskLemmas.{true_at}
use Rattle.cq_vectors_masks.proofs.mask.TruthMask.true_places.Goals as goal

pub returns-clause-places : goal.returns-clause-places
returns-clause-places c = rw (← c.self.view_is) (c.set_places.ensures.places ∙ filter_agree _ _ (true_at c.self.invariant) all_places)
