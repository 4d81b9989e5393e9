use Rattle.std.proofs.Common.{take}
use Rattle.std.specs.List.{AllByRecursion}
use Rattle.cq_encodings_plain.specs.Kind.{IsOf}
use Rattle.cq_segments.proofs.pieces_numbers.are_of.Given as goal

-- the numbers so far are of the kind
abbrev pub invariant-loop-number : goal.invariant-loop-number
invariant-loop-number l = AllByRecursion (IsOf l.kind) (take l.number-index l.numbers)
