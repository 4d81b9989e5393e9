use Rattle.std.proofs.Common.{length, take, ◌-◌, ◌≡◌, ◌≤◌}
use Rattle.cq_encodings_numbers.specs.Packed.{above}
use Rattle.cq_encodings_numbers.proofs.distances.write_distances.Given as goal

-- the distances so far make the numbers so far
abbrev pub invariant-loop-number : goal.invariant-loop-number
invariant-loop-number g l = record {
  done : above l.least (g.W.FixedWidth.numbers l.to) ≡ take l.number-index l.numbers;
  room : length l.numbers - l.number-index ≤ g.W.FixedWidth.room l.to;
}
