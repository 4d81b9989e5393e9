use Rattle.std.proofs.Common.{◌≡◌, ◌++◌, drop}
use Rattle.std.specs.Vec.Iter.{into_iter_items}
use Rattle.cq_values_rows.specs.Flat.{AreRisingFrom, last_end, rows_from}
use Rattle.cq_values_rows.proofs.flat.cut_rows.Given as goal

-- the rows so far and those from the next end on are all rows, of the values that are left
abbrev pub invariant-loop-end : goal.invariant-loop-end
invariant-loop-end l = record {
  rows : rows_from 0 l.ends (into_iter_items l.fn.left) ≡ l.rows.items ++ rows_from l.start (drop l.end-index l.ends) (into_iter_items l.fn.left);
  left : into_iter_items l.left ≡ drop l.start (into_iter_items l.fn.left);
  rising : AreRisingFrom l.start (drop l.end-index l.ends);
  last : last_end l.start (drop l.end-index l.ends) ≡ last_end 0 l.ends;
}
