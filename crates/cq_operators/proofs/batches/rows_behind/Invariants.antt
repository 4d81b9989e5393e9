use Rattle.std.proofs.Common.{◌≡◌, length}
use Rattle.cq_values_rows.specs.Columns.{AreBelow, rows_at}
use Rattle.cq_operators.specs.Batches.{between}
use Rattle.cq_operators.proofs.batches.rows_behind.Given as goal

-- the rows at the places so far
abbrev pub invariant-loop-place : goal.invariant-loop-place
invariant-loop-place l = record {
  rows : rows_at l.list l.places.items ≡ between l.start l.place l.list;
  below : AreBelow (length l.list) l.places.items;
}
