use Rattle.std.proofs.Common.{◌≡◌, ◌+◌, ◌-◌, ◌≤◌, length, map, take}
use Rattle.std.specs.List.{zip}
use Rattle.std.specs.Vec.{vec_capacity, vec_len}
use Rattle.cq_hash_keys.specs.Pairs.{place_of_both}
use Rattle.cq_hash_keys.proofs.pairs.Pairs.find.Given as goal

-- the pairs so far are looked up, and there is room for the others
abbrev pub invariant-loop-place : goal.invariant-loop-place
invariant-loop-place l = record {
  found : l.numbers.items ≡ map (place_of_both l.self) (take l.place (zip l.firsts l.seconds));
  room : vec_len l.numbers + (length l.firsts - l.place) ≤ vec_capacity l.numbers;
}
