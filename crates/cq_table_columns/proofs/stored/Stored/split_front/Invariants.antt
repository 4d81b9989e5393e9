use Rattle.std.proofs.Common.{◌≡◌, ◌≤◌, ◌++◌, length}
use Rattle.cq_table_columns.specs.Stored.{all_rows, front_rows, stored_marked}
use Rattle.cq_table_columns.proofs.stored.Stored.split_front.Given as goal

-- these and those behind them are all rows
abbrev pub invariant-loop-rest : goal.invariant-loop-rest
invariant-loop-rest l = (all_rows l.self ≡ front_rows l.front ++ all_rows l.rest) × (length (front_rows l.front) ≤ 1024)

abbrev pub decreases-loop-rest : goal.decreases-loop-rest
decreases-loop-rest l = length (stored_marked l.rest)
