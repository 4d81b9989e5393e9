use Rattle.std.proofs.Common.{drop, get_or, take, ◌-◌, ◌≡◌}
use Rattle.std.specs.Simd.Lanes.{zip2}
use Rattle.cq_encodings_numbers.specs.Deltas.{bits_datum}
use Rattle.cq_encodings_numbers.proofs.deltas.decode_from.Given as goal

-- the values so far, and the number of the next place
abbrev pub invariant-loop-place : goal.invariant-loop-place
invariant-loop-place l = record {
  done : l.to ≡ take (l.place - l.start) (drop l.start (zip2 (bits_datum l.kind) l.numbers l.nulls));
  number : l.number ≡ get_or l.numbers l.place 0;
}
