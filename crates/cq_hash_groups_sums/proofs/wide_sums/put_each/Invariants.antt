use Rattle.cq_hash_groups_sums.specs.Puts.{PutFrom}
use Rattle.cq_hash_groups_sums.proofs.wide_sums.put_each.Given as goal

-- the values so far are put in
abbrev pub invariant-loop-place : goal.invariant-loop-place
invariant-loop-place l = PutFrom l.start l.place l.numbers l.values l.fn.sums l.sums
