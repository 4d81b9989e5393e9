use Rattle.std.proofs.Common.{drop}
use Rattle.cq_table_positions.specs.Rows.{rows_in}
use Rattle.cq_table_columns.specs.Stored.{front_rows}
use Rattle.cq_operators_conditions.proofs.Asking.{LeftToPass}
use Rattle.cq_operators_conditions.proofs.passed.pass_all.Given as goal

-- the conditions that are left complete what passes
abbrev pub invariant-loop-condition : goal.invariant-loop-condition
invariant-loop-condition l = LeftToPass l.before (drop l.condition-index l.conditions) l.conditions (rows_in l.passed) (front_rows l.front)
