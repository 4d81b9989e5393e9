use Rattle.std.proofs.Common.{◌∙◌, ap, length, refl}
use Rattle.std.proofs.lemmas.List.{length-map}
use Rattle.std.specs.Prelude.{replicate}
use Rattle.std.proofs.lemmas.Simd.{zip2_of_maps}
use Rattle.cq_values.specs.Comparison.{compared}
use Rattle.cq_values.specs.Truth.{or_truth}
use Rattle.cq_values.specs.declared.comparison.Comparison.TheVariants.{Equal}
use Rattle.cq_values.specs.declared.truth.Truth.TheVariants.{False}
use Rattle.cq_model.specs.Eval.{eval}
use Rattle.cq_model.specs.Trees.{expr_of}
use Rattle.cq_operators_scans.proofs.Lists.{same-length}
use Rattle.cq_operators_scans.proofs.Deciding.{choice-exact, choice_equals, in-start, next, one_equals}
use Rattle.cq_operators_scans.proofs.truths.one_of_in.Goals as goal

pub loop-choice-init : goal.loop-choice-init
loop-choice-init c =
    in-start c.args.scan.now (expr_of c.args.expr.now) c.args.choices.now c.set_all.new.self (c.set_all.ensures ∙ ap (λ n. replicate n False) c.len.ensures.len)

pub compared_with-requires-clause-exact : goal.compared_with-requires-clause-exact
compared_with-requires-clause-exact c =
    choice-exact c.args.scan.now (expr_of c.args.expr.now) c.args.choices.now c.loop-choice.choice-index c.choice-item.result c.loop-choice-test.true c.choice-item.is c.requires.choices

pub compared_with-requires-clause-same : goal.compared_with-requires-clause-same
compared_with-requires-clause-same c = ap length (c.vector.ensures ∙ c.in_ok-value.ensures) ∙ length-map c.args.scan.now (eval (expr_of c.args.expr.now))

pub or_with-requires : goal.or_with-requires
or_with-requires c =
    let e = expr_of c.args.expr.now in
    let is = c.in-Ok.ensures ∙ zip2_of_maps (compared Equal) (eval e) (eval (expr_of c.choice-item.result)) c.args.scan.now (c.vector.ensures ∙ c.in_ok-value.ensures) refl in
    same-length c.loop-choice.invariant.front (choice_equals e c.choice-item.result) c.args.scan.now c.loop-choice.truths c.in-Ok.equal c.loop-choice.invariant.are is

pub loop-choice-preserved : goal.loop-choice-preserved
loop-choice-preserved c =
    let e = expr_of c.args.expr.now in
    let is = c.in-Ok.ensures ∙ zip2_of_maps (compared Equal) (eval e) (eval (expr_of c.choice-item.result)) c.args.scan.now (c.vector.ensures ∙ c.in_ok-value.ensures) refl in
    next or_truth (choice_equals e) c.args.scan.now c.args.choices.now c.loop-choice.choice-index c.loop-choice.truths (one_equals e c.args.choices.now) c.choice-item.result c.loop-choice-test.true c.choice-item.is
    c.in-Ok.equal c.or_with.new.self is c.or_with.ensures c.loop-choice.invariant
