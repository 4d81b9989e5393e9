use Rattle.std.proofs.Common.{ap, ◌∙◌, List, ℕ}
use Rattle.std.specs.Prelude.{◌^◌, nat_lt}
use Rattle.cq_model.specs.Width.{widest_limit}
use Rattle.cq_test_plain.proofs.Narrow.{cond_narrow_at}
use Rattle.cq_test_plain.proofs.evaluation.is_cond_narrow.Goals as goal

pub returns : goal.returns
returns c = c.fits.ensures ∙ ap (λ (sizes : List ℕ). nat_lt (widest_limit c.args.cond.now sizes) (2 ^ 127)) (c.deref.ensures.value ∙ c.in_ok-sizes.ensures) ∙ cond_narrow_at c.args.cond.now c.args.row.now
