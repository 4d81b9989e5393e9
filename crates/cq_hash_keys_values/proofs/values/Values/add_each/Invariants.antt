use Rattle.std.proofs.Common.{◌≡◌, ◌+◌, ◌-◌, ◌≤◌, length, take}
use Rattle.std.specs.Vec.{vec_capacity, vec_len}
use Rattle.cq_values.specs.declared.value.Value.TheVariants.{Null}
use Rattle.cq_hash_keys_values.specs.Met.{AreNumbersOf, with_new}
use Rattle.cq_hash_keys_values.specs.Values.{same_value}
use Rattle.cq_hash_keys_values.proofs.values.Values.add_each.Given as goal

-- the values so far are met and their numbers told, and there is room for the others
abbrev pub invariant-loop-place : goal.invariant-loop-place
invariant-loop-place l = record {
  met : l.self ≡ with_new same_value l.fn.self (take l.place l.column);
  told : AreNumbersOf Null l.self (take l.place l.column) l.numbers.items;
  room : vec_len l.numbers + (length l.column - l.place) ≤ vec_capacity l.numbers;
}
