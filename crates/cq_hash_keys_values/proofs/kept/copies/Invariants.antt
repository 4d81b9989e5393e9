use Rattle.std.proofs.Common.{◌≡◌, ◌+◌, ◌-◌, ◌≤◌, length, map, take}
use Rattle.std.specs.Vec.{vec_capacity, vec_len}
use Rattle.cq_values.specs.declared.value.Value.TheVariants.{Number}
use Rattle.cq_hash_keys_values.proofs.kept.copies.Given as goal

-- the numbers so far are values, and there is room for the others
abbrev pub invariant-loop-number : goal.invariant-loop-number
invariant-loop-number l = (l.values.items ≡ map Number (take l.number-index l.numbers)) × (vec_len l.values + (length l.numbers - l.number-index) ≤ vec_capacity l.values)
