use Rattle.std.proofs.Common.{◌∙◌}
use Rattle.std.proofs.lemmas.List.Elements.{filter_agree}
use Rattle.cq_vectors_masks.proofs.MaskLemmas.{true_at}
use Rattle.cq_vectors_masks.proofs.mask.TruthMask.keep_true.Goals as goal

pub returns-clause-kept : goal.returns-clause-kept
returns-clause-kept c = rw (← c.self.view_is) (c.keep_set.ensures.kept ∙ filter_agree _ _ (true_at c.self.invariant) c.args.places.now)
