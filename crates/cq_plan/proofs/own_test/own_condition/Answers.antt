use Rattle.std.proofs.Common.{Some, rules, subst, sym}
use Rattle.std.proofs.lemmas.List.{nil_from_length}
use Rattle.cq_model.specs.Expr.{Cond}
use Rattle.cq_plan.specs.OwnTest.{IsOwnTest}
use Rattle.cq_plan.proofs.OwnTests.{none-own, some-own}
use Rattle.cq_plan.proofs.own_test.own_condition.Goals as goal

pub returns : goal.returns
returns c =
    let own = c.in_ok-own in
    let rest = rw c.in_ok-first-3.ensures.1 at c.parts_behind.ensures in
    subst (λ (condition : Cond). IsOwnTest c.args.filter.now c.args.before c.args.wide (Some condition)) (sym c.new-2.ensures)
    (some-own c.args.filter.now c.args.before c.args.wide own.own.items own.ensures.own own.ensures.all c.in-Some.first.now c.in-Some.rest.now c.in_ok-first-3.first c.in_ok-first-3.rest
    (search rules) (search rules) rest)

pub returns-in_default : goal.returns-in_default
returns-in_default c = none-own c.args.filter.now c.args.before c.args.wide c.in_ok-own.own.items c.in_ok-own.ensures.own c.in_ok-own.ensures.all (nil_from_length c.in_ok-own.own.items (search rules))
