use Rattle.std.proofs.Common.{◌≤◌}
use Rattle.cq_encodings_numbers.specs.Ends.{AreEnds}
use Rattle.cq_encodings_numbers.proofs.ends.ends_between.Given as goal

-- the ends of the offsets so far
abbrev pub invariant-loop-place : goal.invariant-loop-place
invariant-loop-place l = record {
  from : l.start ≤ l.place;
  ends : AreEnds l.start l.place l.offsets l.nulls (record { has_null = l.has_null; ends = l.ends });
}
