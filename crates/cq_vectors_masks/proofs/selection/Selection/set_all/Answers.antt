use Rattle.std.proofs.Common.{subst, sym}
use Rattle.cq_vectors_masks.specs.Selection.{AreRising}
use Rattle.cq_vectors_masks.proofs.SelectionLemmas.{AreRising-range_with_len}
use Rattle.cq_vectors_masks.proofs.selection.Selection.set_all.Goals as goal

pub invariant_of-self : goal.invariant_of-self
invariant_of-self c = (c.requires, subst AreRising (sym c.count_up.ensures) (AreRising-range_with_len c.args.len c.requires))
