use Rattle.std.proofs.Common.{◌∙◌, ap, map}
use Rattle.cq_model.specs.Condition.{liked}
use Rattle.cq_model.specs.Eval.{eval}
use Rattle.cq_model.specs.Trees.{expr_of}
use Rattle.cq_model_eval.proofs.Conditions.{map-map}
use Rattle.cq_operators_scans.proofs.truths.likes_in.Goals as goal

pub returns : goal.returns
returns c =
    c.in_ok-asked.ensures ∙ ap (map (λ v. liked v c.args.pattern.now)) (c.vector.ensures ∙ c.in_ok-values.ensures) ∙ map-map (eval (expr_of c.args.expr.now)) (λ v. liked v c.args.pattern.now) c.args.scan.now
