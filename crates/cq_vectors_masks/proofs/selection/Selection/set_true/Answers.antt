use Rattle.std.proofs.Common.{◌∙◌, subst, sym}
use Rattle.cq_vectors_masks.specs.Selection.{AreRising, is_true_at}
use Rattle.cq_vectors_masks.specs.Walk.{all_places}
use Rattle.cq_vectors_masks.proofs.SelectionLemmas.{AreRising-filter, all_rising, where_true-length}
use Rattle.cq_vectors_masks.proofs.selection.Selection.set_true.Goals as goal

pub invariant_of-self : goal.invariant_of-self
invariant_of-self c =
    let walked = c.true_places-self-inside.ensures in
    (walked.few, subst AreRising (sym walked.places) (AreRising-filter (is_true_at c.args.mask.now) all_places all_rising))

pub returns : goal.returns
returns c =
    let walked = c.true_places-self-inside.ensures in
    walked.places ∙ where_true-length c.args.mask.now walked.whole
