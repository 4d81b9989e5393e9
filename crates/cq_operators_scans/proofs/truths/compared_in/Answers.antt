use Rattle.std.proofs.Common.{◌∙◌, ap, length, refl}
use Rattle.std.proofs.lemmas.List.{length-map}
use Rattle.std.proofs.lemmas.Result.{IfOk-weaker}
use Rattle.std.proofs.lemmas.Simd.{zip2_of_maps}
use Rattle.cq_values.specs.Comparison.{compared}
use Rattle.cq_model.specs.Eval.{eval}
use Rattle.cq_model.specs.Trees.{expr_of}
use Rattle.cq_operators_scans.proofs.truths.compared_in.Goals as goal

pub compared_with-truths-requires-clause-same : goal.compared_with-truths-requires-clause-same
compared_with-truths-requires-clause-same c = ap length (c.vector.ensures ∙ c.in_ok-a.ensures) ∙ length-map c.args.scan.now (eval (expr_of c.args.a.now))

pub returns : goal.returns
returns c =
    IfOk-weaker c.compared_with-truths.result _ _
    (λ truths are. are ∙ zip2_of_maps (compared c.args.comparison) (eval (expr_of c.args.a.now)) (eval (expr_of c.args.b.now)) c.args.scan.now (c.vector.ensures ∙ c.in_ok-a.ensures) refl) c.compared_with-truths.ensures
