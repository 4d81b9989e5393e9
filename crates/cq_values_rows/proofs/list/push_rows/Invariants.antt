use Rattle.std.proofs.Common.{◌≡◌, ◌++◌, [], take}
use Rattle.cq_values_rows.proofs.list.push_rows.Given as goal

-- the rows so far stand behind the others, and none is begun
abbrev pub invariant-loop-place : goal.invariant-loop-place
invariant-loop-place l = (l.to.rows ≡ l.fn.to.rows ++ take l.place l.rows) × (l.to.begun ≡ [])
