use Rattle.std.proofs.Common.{◌≡◌, ◌++◌, ◌+◌, ◌-◌, ◌≤◌, replicate}
use Rattle.std.specs.Vec.{vec_capacity, vec_len}
use Rattle.cq_values.specs.declared.value.Value.TheVariants.{Null}
use Rattle.cq_hash_groups_slots.proofs.bests.push_nulls.Given as goal

-- so many new ones stand behind the old ones, and there is room for the others
abbrev pub invariant-loop : goal.invariant-loop
invariant-loop l = (l.values.items ≡ l.fn.values.items ++ replicate l.counter Null) × (vec_len l.values + (l.missing - l.counter) ≤ vec_capacity l.values)
