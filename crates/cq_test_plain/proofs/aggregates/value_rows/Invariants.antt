use Rattle.std.proofs.Common.{◌≡◌, take}
use Rattle.cq_test_plain.specs.OfGroups.{value_rows}
use Rattle.cq_test_plain.proofs.aggregates.value_rows.Given as goal

-- the values of the rows so far
abbrev pub invariant-loop-row : goal.invariant-loop-row
invariant-loop-row l = l.values.items ≡ value_rows l.expr (take l.row-index l.rows)
