use Rattle.std.proofs.Common.{◌≡◌, ◌++◌, ◌+◌, ◌-◌, ◌≤◌, replicate}
use Rattle.std.specs.Vec.{vec_capacity, vec_len}
use Rattle.cq_hash_groups_sums.specs.Puts.{no_sum}
use Rattle.cq_hash_groups_sums.proofs.wide_sums.push_empty.Given as goal

-- so many new ones stand behind the old ones, and there is room for the others
abbrev pub invariant-loop : goal.invariant-loop
invariant-loop l = (l.sums.items ≡ l.fn.sums.items ++ replicate l.counter no_sum) × (vec_len l.sums + (l.missing - l.counter) ≤ vec_capacity l.sums)
