use Rattle.std.proofs.Common.{List, take, ◌+◌, subst, sym, ◌∙◌}
use Rattle.std.proofs.lemmas.List.{take_all}
use Rattle.std.proofs.lemmas.Result.{IfOk-weaker}
use Rattle.cq_values.specs.declared.value.Value.{Value}
use Rattle.cq_test_plain.proofs.Bests.{IsAsNear, IsBest, best-first, best-next, best-is_extreme, nearer-choice}
use Rattle.cq_test_plain.proofs.aggregates.extreme.Goals as goal

pub loop-value-init : goal.loop-value-init
loop-value-init c = best-first (nearer-choice c.args.end) c.args.values.now c.in-Some.first.now c.in-Some.ensures.value

pub loop-value-preserved : goal.loop-value-preserved
loop-value-preserved c =
    subst (λ (v : Value). IsBest (IsAsNear c.args.end) v c.args.values.now (take (c.loop-value.value-index + 1) c.args.values.now)) (sym c.better-best.ensures)
    (best-next (nearer-choice c.args.end) c.args.values.now c.loop-value.value-index c.loop-value.best.now c.value-item.result c.loop-value-test.true c.value-item.is c.loop-value.invariant)

pub returns : goal.returns
returns c =
    let all = take_all c.loop-value.value-index c.args.values.now c.loop-value-test.false in
    let best = subst (λ (these : List Value). IsBest (IsAsNear c.args.end) c.loop-value.best.now c.args.values.now these) all c.loop-value.invariant in
    IfOk-weaker c.copy.result _ _ (λ v e. e ∙ best-is_extreme (nearer-choice c.args.end) c.args.values.now c.loop-value.best.now best) c.copy.ensures
