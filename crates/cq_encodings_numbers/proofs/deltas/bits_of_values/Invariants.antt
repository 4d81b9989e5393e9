use Rattle.std.proofs.Common.{length, map, take, vec_capacity, vec_len, ◌+◌, ◌-◌, ◌≡◌, ◌≤◌}
use Rattle.std.specs.Simd.Lanes.{zip2}
use Rattle.cq_encodings_numbers.specs.Deltas.{bits_datum}
use Rattle.cq_encodings_plain.specs.Parts.{nulls_of}
use Rattle.cq_values.specs.Lent.{owned}
use Rattle.cq_encodings_numbers.proofs.deltas.bits_of_values.Given as goal

-- the numbers so far and the flags make the values so far
abbrev pub invariant-loop-value : goal.invariant-loop-value
invariant-loop-value l = record {
  same : zip2 (bits_datum l.kind) l.numbers.items (nulls_of (take l.value-index l.values)) ≡ map owned (take l.value-index l.values);
  long : length l.numbers.items ≡ l.value-index;
  room : vec_len l.numbers + (length l.values - l.value-index) ≤ vec_capacity l.numbers;
}
