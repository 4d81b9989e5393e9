use Rattle.std.proofs.Common.{length, take, ◌-◌, ◌≡◌, ◌≤◌}
use Rattle.cq_encodings_plain.proofs.packed_numbers.copy_into.Given as goal

-- the numbers so far
abbrev pub invariant-loop-number : goal.invariant-loop-number
invariant-loop-number g l = record {
  done : g.W.FixedWidth.numbers l.to ≡ take l.number-index l.numbers;
  room : length l.numbers - l.number-index ≤ g.W.FixedWidth.room l.to;
}
