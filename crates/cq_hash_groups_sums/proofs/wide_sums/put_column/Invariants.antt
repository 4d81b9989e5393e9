use Rattle.cq_hash_groups_sums.specs.NumberColumns.{with_nulls}
use Rattle.cq_hash_groups_sums.specs.Puts.{PutFrom}
use Rattle.cq_hash_groups_sums.proofs.wide_sums.put_column.Given as goal

-- the numbers and NULLs so far are put in
abbrev pub invariant-loop-place : goal.invariant-loop-place
invariant-loop-place g l = PutFrom l.start l.place l.numbers (with_nulls (g.C.NumberColumn.numbers l.column) l.nulls) l.fn.sums l.sums
