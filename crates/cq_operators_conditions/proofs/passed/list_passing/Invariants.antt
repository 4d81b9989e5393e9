use Rattle.std.proofs.Common.{◌≡◌, ◌++◌, length}
use Rattle.std.specs.List.{AllByRecursion}
use Rattle.cq_operators_conditions.specs.Passing.{CanPass, conditions_in, passing_rows}
use Rattle.cq_segments_pieces.specs.Rows.{stored_rows}
use Rattle.cq_table_columns.specs.Stored.{all_rows}
use Rattle.cq_operators_conditions.proofs.passed.list_passing.Given as goal

-- what passed so far and what passes of the rows that are left make up all
abbrev pub invariant-loop-left : goal.invariant-loop-left
invariant-loop-left l = record {
  passing : stored_rows l.passing.items ++ passing_rows l.before l.conditions (all_rows l.left) ≡ passing_rows l.before l.conditions (all_rows l.rows);
  exact : AllByRecursion (CanPass l.before (conditions_in l.conditions)) (all_rows l.left);
}

-- fewer rows are left
abbrev pub decreases-loop-left : goal.decreases-loop-left
decreases-loop-left l = length (all_rows l.left)
