use Rattle.std.proofs.Common.{◌≡◌, drop, take}
use Rattle.std.specs.Vec.Iter.{into_iter_items}
use Rattle.cq_values_rows.specs.Columns.{longer}
use Rattle.cq_values_rows.proofs.list.longer.Given as goal

-- the columns so far are longer, and the others are left
abbrev pub invariant-loop-place : goal.invariant-loop-place
invariant-loop-place l = record {
  so_far : l.all.items ≡ longer (take l._place l.fn.columns.items) (take l._place l.fn.more.items);
  left : into_iter_items l.left ≡ drop l._place l.fn.columns.items;
  behind : into_iter_items l.behind ≡ drop l._place l.fn.more.items;
}
