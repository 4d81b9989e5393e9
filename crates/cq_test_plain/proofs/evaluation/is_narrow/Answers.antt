use Rattle.std.proofs.Common.{ap, ◌∙◌, List, ℕ}
use Rattle.std.specs.Prelude.{is_some}
use Rattle.cq_model.specs.Width.{extent_limit, fitting}
use Rattle.cq_test_plain.proofs.Narrow.{narrow_at}
use Rattle.cq_test_plain.proofs.evaluation.is_narrow.Goals as goal

pub returns : goal.returns
returns c = c.is_some.ensures ∙ ap is_some c.width_of.ensures ∙ ap (λ (sizes : List ℕ). is_some (fitting (extent_limit c.args.expr.now sizes))) (c.deref.ensures.value ∙ c.in_ok-sizes.ensures) ∙ narrow_at c.args.expr.now c.args.row.now
