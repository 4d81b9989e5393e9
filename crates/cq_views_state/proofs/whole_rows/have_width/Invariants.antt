use Rattle.std.proofs.Common.{◌≡◌, length, take}
use Rattle.std.specs.List.{AllByRecursion}
use Rattle.cq_views_state.proofs.whole_rows.have_width.Given as goal

-- the rows so far have so many values
abbrev pub invariant-loop-place : goal.invariant-loop-place
invariant-loop-place l = AllByRecursion (λ row. length row ≡ l.width) (take l.place l.rows)
