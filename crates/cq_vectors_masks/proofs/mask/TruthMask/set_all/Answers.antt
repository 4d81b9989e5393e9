use Rattle.std.proofs.Common.{◌∙◌, ap, replicate}
use Rattle.cq_values.specs.Truth.{is_true}
use Rattle.cq_vectors_masks.proofs.MaskLemmas.{shown, Shows-same, Shows-replicate}
use Rattle.cq_vectors_masks.proofs.mask.TruthMask.set_all.Goals as goal

pub invariant_of-self : goal.invariant_of-self
invariant_of-self c = (shown (Shows-same (c.set_all.ensures ∙ ap (replicate c.args.len) c.is_true.ensures) (c.set_all-2.ensures ∙ ap (replicate c.args.len) (c.is_true-2.ensures ∙ ap is_true c.not.ensures)) (Shows-replicate c.args.len c.args.truth))).0

pub returns : goal.returns
returns c = (shown (Shows-same (c.set_all.ensures ∙ ap (replicate c.args.len) c.is_true.ensures) (c.set_all-2.ensures ∙ ap (replicate c.args.len) (c.is_true-2.ensures ∙ ap is_true c.not.ensures)) (Shows-replicate c.args.len c.args.truth))).1
