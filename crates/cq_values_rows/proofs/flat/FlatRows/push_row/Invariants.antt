use Rattle.std.proofs.Common.{◌≡◌, take}
use Rattle.cq_values_rows.proofs.flat.FlatRows.push_row.Given as goal

-- the values so far make up the row that is begun
abbrev pub invariant-loop-at : goal.invariant-loop-at
invariant-loop-at l = (l.self.rows ≡ l.fn.self.rows) × (l.self.begun ≡ take l.at l.row)
