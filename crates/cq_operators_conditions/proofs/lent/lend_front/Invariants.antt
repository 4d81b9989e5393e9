use Rattle.std.proofs.Common.{◌≡◌, ◌++◌, take}
use Rattle.cq_segments_pieces.specs.Rows.{stored_rows}
use Rattle.cq_table_columns.specs.Stored.{front_rows}
use Rattle.cq_operators_conditions.proofs.lent.lend_front.Given as goal

-- those lent before, and the rows so far
abbrev pub invariant-loop-place : goal.invariant-loop-place
invariant-loop-place l = (stored_rows l.lent.items ≡ stored_rows l.initial.lent.items ++ take l.place (front_rows l.front))
