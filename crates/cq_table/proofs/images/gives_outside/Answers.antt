use Rattle.cq_binder_rules.specs.UpdateChecks.{is_outside}
use Rattle.cq_table.proofs.Setting.{any_value}
use Rattle.cq_table.proofs.images.gives_outside.Goals as goal

pub returns-then-is_outside : goal.returns-then-is_outside
returns-then-is_outside c =
    any_value is_outside c.args.value.now c.args.rows.now c.loop-row.row-index c.row-item.result c.loop-row-test.true c.row-item.is _ (rw c.as_slice.ensures at c.eval_row.ensures) c.if-is_outside.ensures
