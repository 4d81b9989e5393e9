use Rattle.std.proofs.Common.{[], ◌∷◌, ◌++◌, ap, ◌∙◌}
use Rattle.std.specs.List.{AllByRecursion}
use Rattle.cq_values.specs.Value.{Row}
use Rattle.cq_model.specs.Group.{SumInRange, group_row, rows_of_key}
use Rattle.cq_test_plain.proofs.Once.{map-next}
use Rattle.std.proofs.lemmas.Result.{err_from_is_err_and}
use Rattle.cq_model_bags.specs.Bag.{once_each}
use Rattle.cq_test_plain.proofs.Exits.{tells_more}
use Rattle.cq_test_plain.proofs.GroupFaults.{group_outside}
use Rattle.cq_test_plain.proofs.groups.grouped_by.Goals as goal
use Rattle.cq_model_bags.proofs.Lists.{all-next}

pub returns-in_err-group_of_key-clause-fault : goal.returns-in_err-group_of_key-clause-fault
returns-in_err-group_of_key-clause-fault c =
    let p = err_from_is_err_and c.from_residual-in_err-group_of_key.result c.from_residual-in_err-group_of_key.ensures.1 in
    rw (p.1, p.2)
    (tells_more (λ wide. wide)
    (group_outside c.args.columns.now c.args.aggregates.now c.key-item.result (once_each c.args.rows.now) c.deref-key-items.result.now c.loop-key.key-index (c.deref-key-items.ensures.value ∙ c.in_ok-keys.ensures) c.loop-key-test.true c.key-item.is)
    c.in_err-group_of_key.field-0.0 c.in_err-group_of_key.ensures.fault)

pub loop-key-preserved : goal.loop-key-preserved
loop-key-preserved c =
    let xs = once_each c.args.rows.now in
    let group = λ (k : Row). group_row c.args.aggregates.now k (rows_of_key c.args.columns.now k xs) in
    let in_range : Row → Type 0 = λ k. AllByRecursion (λ a. SumInRange a (rows_of_key c.args.columns.now k xs)) c.args.aggregates.now in (
      c.in_ok-push.ensures.items ∙ ap (λ (row : Row). c.loop-key.groups.items ++ row ∷ []) c.in_ok-group_of_key.ensures.ok
          ∙ map-next group c.deref-key-items.result.now c.loop-key.groups.items c.loop-key.key-index c.key-item.result c.loop-key-test.true c.key-item.is c.loop-key.invariant.0,
      all-next in_range c.deref-key-items.result.now c.loop-key.key-index c.key-item.result c.loop-key-test.true c.key-item.is c.loop-key.invariant.1 c.in_ok-group_of_key.ensures.range,
    )
