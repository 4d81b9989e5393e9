use Rattle.std.proofs.Common.{◌≡◌, map, set}
use Rattle.cq_values.specs.declared.value.Value.TheVariants.{Number}
use Rattle.cq_hash_groups_sums.specs.Puts.{PutFrom}
use Rattle.cq_hash_groups_sums.proofs.at_hand.put_each_at_hand.Given as goal

-- the numbers so far are in the sum at hand, and not yet in its place
abbrev pub invariant-loop-place : goal.invariant-loop-place
invariant-loop-place g l = (l.sums ≡ l.fn.sums) × PutFrom 0 l.place l.numbers (map Number (g.C.NumberColumn.numbers l.column)) l.fn.sums (set l.fn.sums l.group l.sum)
