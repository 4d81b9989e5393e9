use Rattle.std.proofs.Common.{◌≡◌, drop, take}
use Rattle.std.specs.Vec.Iter.{into_iter_items}
use Rattle.cq_values_rows.proofs.flat.take_row.Given as goal

-- the values so far are the row's, and those behind them are left
abbrev pub invariant-loop-value : goal.invariant-loop-value
invariant-loop-value l = (l.row ≡ take l._value (into_iter_items l.fn.left)) × (into_iter_items l.left ≡ drop l._value (into_iter_items l.fn.left))
