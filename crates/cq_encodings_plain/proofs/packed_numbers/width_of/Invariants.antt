use Rattle.std.proofs.Common.{take, ◌≤◌}
use Rattle.std.specs.List.{All}
use Rattle.cq_encodings_plain.proofs.packed_numbers.width_of.Given as goal

-- none of the numbers so far is greater
abbrev pub invariant-loop-number : goal.invariant-loop-number
invariant-loop-number l = All (λ number. number ≤ l.greatest) (take l.number-index l.numbers)
