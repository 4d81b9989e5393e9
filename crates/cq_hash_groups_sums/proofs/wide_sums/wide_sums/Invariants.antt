use Rattle.std.proofs.Common.{◌≡◌, ◌+◌, ◌-◌, ◌≤◌, length, take}
use Rattle.std.specs.Vec.{vec_capacity, vec_len}
use Rattle.cq_hash_groups_sums.proofs.wide_sums.wide_sums.Given as goal

-- the sums so far are wide, and there is room for the others
abbrev pub invariant-loop-sum : goal.invariant-loop-sum
invariant-loop-sum l = (l.sums.items ≡ take l.sum-index l.small) × (vec_len l.sums + (length l.small - l.sum-index) ≤ vec_capacity l.sums)
