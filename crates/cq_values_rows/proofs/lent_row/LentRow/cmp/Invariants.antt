use Rattle.std.proofs.Common.{◌≡◌, drop}
use Rattle.cq_values.specs.Order.{row_cmp}
use Rattle.cq_values_rows.proofs.lent_row.LentRow.cmp.Given as goal

-- the columns that are left decide
abbrev pub invariant-loop-at : goal.invariant-loop-at
invariant-loop-at l = row_cmp (drop l.at l.self) (drop l.at l.other) ≡ row_cmp l.self l.other
