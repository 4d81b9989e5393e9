use Rattle.std.proofs.Common.{◌≡◌, ◌++◌, length}
use Rattle.cq_segments_pieces.specs.Rows.{stored_rows}
use Rattle.cq_table_columns.specs.Stored.{all_rows}
use Rattle.cq_operators_conditions.proofs.lent.lend_all.Given as goal

-- the rows lent so far and those that are left make up all
abbrev pub invariant-loop-left : goal.invariant-loop-left
invariant-loop-left l = (stored_rows l.lent.items ++ all_rows l.left ≡ all_rows l.rows)

-- fewer rows are left
abbrev pub decreases-loop-left : goal.decreases-loop-left
decreases-loop-left l = length (all_rows l.left)
