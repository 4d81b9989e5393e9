use Rattle.std.proofs.Common.{length, map, take}
use Rattle.cq_values.specs.Lent.{owned}
use Rattle.cq_encodings_numbers.specs.Bounds.{AreBounds}
use Rattle.cq_segments.specs.Bounds.{AreWithin, ends_at}
use Rattle.cq_segments.proofs.held_bounds.find_ends.Given as goal

-- the bounds of the values so far
abbrev pub invariant-loop-place : goal.invariant-loop-place
invariant-loop-place l = record {
  bounds : AreBounds l.has_null (ends_at l.places (map owned l.values)) (take l.place (map owned l.values));
  within : AreWithin (length l.values) l.places;
}
