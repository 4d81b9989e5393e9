use Rattle.std.proofs.Common.{take}
use Rattle.cq_encodings_plain.specs.Kind.{IsOf, number_values}
use Rattle.cq_segments.specs.Numbers.{AreEnds}
use Rattle.cq_segments.proofs.number_bounds.ends_of.Given as goal

-- the ends of the numbers so far
abbrev pub invariant-loop-i : goal.invariant-loop-i
invariant-loop-i l = record {
  least : IsOf l.fn.kind l.least;
  greatest : IsOf l.fn.kind l.greatest;
  ends : AreEnds l.fn.kind l.least l.greatest (take l.i (number_values l.fn.kind l.numbers));
}
