use Rattle.std.proofs.Common.{◌≡◌, ◌+◌, ◌-◌, ◌≤◌, length, map, take}
use Rattle.std.specs.Vec.{vec_capacity, vec_len}
use Rattle.cq_hash_keys_values.specs.Values.{place_in}
use Rattle.cq_hash_keys_values.proofs.values.Values.find_each.Given as goal

-- the values so far are looked up, and there is room for the others
abbrev pub invariant-loop-place : goal.invariant-loop-place
invariant-loop-place l = record {
  found : l.numbers.items ≡ map (place_in l.self) (take l.place l.column);
  room : vec_len l.numbers + (length l.column - l.place) ≤ vec_capacity l.numbers;
}
