use Rattle.std.proofs.Common.{subst, ap, ◌∙◌}
use Rattle.std.specs.List.{AllByRecursion, Any}
use Rattle.std.proofs.lemmas.Result.{IfOk-weaker, IfErr-weaker}
use Rattle.cq_model_bags.specs.Bag.{Weighted, once_each}
use Rattle.cq_model.specs.Group.{SumInRange, group_row}
use Rattle.cq_test_plain.specs.declared.fault.PlainFault.{PlainFault}
use Rattle.cq_test_plain.specs.Faults.{Tells}
use Rattle.cq_test_plain.specs.Wide.{IsWideOver}
use Rattle.cq_test_plain.proofs.Exits.{tells_more}
use Rattle.cq_test_plain.proofs.GroupFaults.{group_wide}
use Rattle.cq_test_plain.proofs.groups.group_of_key.Goals as goal

pub returns-clause-ok : goal.returns-clause-ok
returns-clause-ok c =
    let same = ap once_each c.deref.ensures.value ∙ c.in_ok-own.ensures in
    IfOk-weaker c.group_row.result _ _ (λ row e. e ∙ ap (group_row c.args.aggregates.now c.args.key.now) same) c.group_row.ensures.ok

pub returns-clause-range : goal.returns-clause-range
returns-clause-range c =
    let same = ap once_each c.deref.ensures.value ∙ c.in_ok-own.ensures in
    IfOk-weaker c.group_row.result _ _ (λ row r. subst (λ (xs : Weighted). AllByRecursion (λ a. SumInRange a xs) c.args.aggregates.now) same r) c.group_row.ensures.range

pub returns-clause-fault : goal.returns-clause-fault
returns-clause-fault c =
    let same = ap once_each c.deref.ensures.value ∙ c.in_ok-own.ensures in
    IfErr-weaker c.group_row.result _ _
    (λ (fault : PlainFault) t. tells_more (group_wide c.args.columns.now c.args.aggregates.now c.args.key.now (once_each c.args.rows.now)) (λ no. no) fault
    (subst (λ (xs : Weighted). Tells (Any (IsWideOver xs) c.args.aggregates.now) (AllByRecursion (λ a. SumInRange a xs) c.args.aggregates.now → ⊥) fault) same t))
    c.group_row.ensures.fault
