use Rattle.std.proofs.Common.{◌∙◌, ap, arith, length, subst, sym}
use Rattle.cq_vectors_masks.specs.Selection.{AreRising, is_true_at, where_true}
use Rattle.cq_vectors_masks.proofs.SelectionLemmas.{AreRising-filter}
use Rattle.cq_vectors_masks.proofs.selection.keep_true.Goals as goal

pub invariant_of-to : goal.invariant_of-to
invariant_of-to c =
    let kept = c.keep_true-to-inside.ensures in
    let is = kept.kept ∙ ap (where_true c.args.mask.now) c.places.ensures.places in
    (omega (arith, kept.few, c.places.ensures.few, ap length c.places.ensures.places), subst AreRising (sym is) (AreRising-filter (is_true_at c.args.mask.now) c.args.from.now c.places.ensures.rising))
