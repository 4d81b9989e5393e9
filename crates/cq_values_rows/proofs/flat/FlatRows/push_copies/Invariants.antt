use Rattle.std.proofs.Common.{◌≡◌, ◌++◌, take}
use Rattle.cq_values_rows.proofs.flat.FlatRows.push_copies.Given as goal

-- behind the row that was begun stand the values so far, and no row is ended
abbrev pub invariant-loop-value : goal.invariant-loop-value
invariant-loop-value l = (l.self.rows ≡ l.fn.self.rows) × (l.self.begun ≡ l.fn.self.begun ++ take l.value-index l.values)
