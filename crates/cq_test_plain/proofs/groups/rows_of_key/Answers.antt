use Rattle.std.proofs.Common.{ap, ◌∙◌, filter}
use Rattle.std.proofs.lemmas.List.{take_all}
use Rattle.cq_values.specs.Value.{Row}
use Rattle.cq_values.specs.Order.{same_row}
use Rattle.cq_model_bags.specs.Bag.{once_each}
use Rattle.cq_model_bags.proofs.Distincts.{once_each-filter}
use Rattle.cq_model.specs.Group.{key_of}
use Rattle.cq_test_plain.proofs.groups.rows_of_key.Goals as goal

pub returns : goal.returns
returns c =
    let has_key = λ (r : Row). same_row (key_of c.args.columns.now r) c.args.key.now in
    ap once_each (c.loop-row.invariant ∙ ap (filter has_key) (take_all c.loop-row.row-index c.args.rows.now c.loop-row-test.false)) ∙ once_each-filter has_key c.args.rows.now
