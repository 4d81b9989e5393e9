use Rattle.std.proofs.Common.{◌≡◌, [], take}
use Rattle.cq_values_rows.specs.Columns.{rows_at}
use Rattle.cq_values_rows.proofs.list.RowList.copies_at.Given as goal

-- the rows so far are copied, and none is begun
abbrev pub invariant-loop-place : goal.invariant-loop-place
invariant-loop-place l = (l.flat.rows ≡ rows_at l.self (take l.place-index l.places)) × (l.flat.begun ≡ [])
