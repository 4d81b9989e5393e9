use Rattle.std.proofs.Common.{◌≡◌, ◌++◌, ◌+◌, ◌-◌, ◌≤◌, replicate}
use Rattle.std.specs.Vec.{vec_capacity, vec_len}
use Rattle.cq_hash_groups_distinct.proofs.value_sets.push_zeros.Given as goal

-- so many new ones stand behind the old ones, and there is room for the others
abbrev pub invariant-loop : goal.invariant-loop
invariant-loop l = (l.counts.items ≡ l.fn.counts.items ++ replicate l.counter 0) × (vec_len l.counts + (l.missing - l.counter) ≤ vec_capacity l.counts)
