use Rattle.std.proofs.Common.{◌∙◌, ap, map}
use Rattle.cq_values.specs.Truth.{truth_of}
use Rattle.cq_model.specs.Condition.{is_null}
use Rattle.cq_model.specs.Eval.{eval}
use Rattle.cq_model.specs.Trees.{expr_of}
use Rattle.cq_model_eval.proofs.Conditions.{map-map}
use Rattle.cq_operators_scans.proofs.truths.nulls_in.Goals as goal

pub returns : goal.returns
returns c =
    c.is_null.ensures ∙ ap (map (λ v. truth_of (is_null v))) (c.vector.ensures ∙ c.in_ok-values.ensures)
    ∙ map-map (eval (expr_of c.args.expr.now)) (λ v. truth_of (is_null v)) c.args.scan.now
