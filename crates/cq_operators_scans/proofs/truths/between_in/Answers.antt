use Rattle.std.proofs.Common.{◌∙◌, ap, length, map, refl}
use Rattle.std.proofs.lemmas.List.{length-map}
use Rattle.std.proofs.lemmas.Simd.{zip2_of_maps}
use Rattle.cq_values.specs.Comparison.{compared}
use Rattle.cq_values.specs.declared.comparison.Comparison.TheVariants.{GreaterOrEqual, LessOrEqual}
use Rattle.cq_model.specs.Eval.{eval}
use Rattle.cq_model.specs.Trees.{expr_of}
use Rattle.cq_operators_scans.proofs.Lists.{same-length}
use Rattle.cq_operators_scans.proofs.Nodes.{between-truths}
use Rattle.cq_operators_scans.proofs.truths.between_in.Goals as goal

pub compared_with-from_least-requires-clause-same : goal.compared_with-from_least-requires-clause-same
compared_with-from_least-requires-clause-same c = ap length (c.vector.ensures ∙ c.in_ok-value.ensures) ∙ length-map c.args.scan.now (eval (expr_of c.args.expr.now))

pub compared_with-to_greatest-requires-clause-same : goal.compared_with-to_greatest-requires-clause-same
compared_with-to_greatest-requires-clause-same c = ap length (c.vector-2.ensures ∙ c.in_ok-value.ensures) ∙ length-map c.args.scan.now (eval (expr_of c.args.expr.now))

pub and_with-requires : goal.and_with-requires
and_with-requires c =
    let rows = c.args.scan.now in
    let e = expr_of c.args.expr.now in
    let a = expr_of c.args.least.now in
    let b = expr_of c.args.greatest.now in
    let from = c.in_ok-truths.ensures ∙ zip2_of_maps (compared GreaterOrEqual) (eval e) (eval a) rows (c.vector.ensures ∙ c.in_ok-value.ensures) refl in
    let to = c.in_ok-to_greatest.ensures ∙ zip2_of_maps (compared LessOrEqual) (eval e) (eval b) rows (c.vector-2.ensures ∙ c.in_ok-value.ensures) refl in
    same-length (λ r. compared GreaterOrEqual (eval e r) (eval a r)) (λ r. compared LessOrEqual (eval e r) (eval b r)) rows c.in_ok-truths.truths c.in_ok-to_greatest.field-0 from to

pub returns : goal.returns
returns c =
    let rows = c.args.scan.now in
    let a = expr_of c.args.least.now in
    let b = expr_of c.args.greatest.now in
    between-truths rows (expr_of c.args.expr.now) a b c.vector.result.now (map (eval a) rows) (map (eval b) rows)
    c.in_ok-truths.truths c.in_ok-to_greatest.field-0 c.and_with.new.self (c.vector.ensures ∙ c.in_ok-value.ensures) refl refl
    c.in_ok-truths.ensures (rw (c.vector.ensures) (rw (c.vector-2.ensures) at c.in_ok-to_greatest.ensures)) c.and_with.ensures
