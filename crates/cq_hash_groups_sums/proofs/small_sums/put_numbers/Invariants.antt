use Rattle.std.proofs.Common.{map}
use Rattle.cq_values.specs.declared.value.Value.TheVariants.{Number}
use Rattle.cq_hash_groups_sums.specs.Puts.{PutFrom}
use Rattle.cq_hash_groups_sums.proofs.small_sums.put_numbers.Given as goal

-- the numbers so far are put in
abbrev pub invariant-loop-place : goal.invariant-loop-place
invariant-loop-place g l = PutFrom 0 l.place l.numbers (map Number (g.C.NumberColumn.numbers l.column)) l.fn.sums l.sums
