use Rattle.std.proofs.Common.{◌≡◌, set}
use Rattle.cq_hash_groups_sums.specs.NumberColumns.{with_nulls}
use Rattle.cq_hash_groups_sums.specs.Puts.{PutFrom}
use Rattle.cq_hash_groups_sums.proofs.at_hand.put_at_hand.Given as goal

-- the numbers and NULLs so far are in the sum at hand, and not yet in its place
abbrev pub invariant-loop-place : goal.invariant-loop-place
invariant-loop-place g l = (l.sums ≡ l.fn.sums) × PutFrom 0 l.place l.numbers (with_nulls (g.C.NumberColumn.numbers l.column) l.nulls) l.fn.sums (set l.fn.sums l.group l.sum)
