use Rattle.std.proofs.Common.{false, length, map, take, ◌-◌, ◌≡◌, ◌≤◌}
use Rattle.std.specs.Simd.Lanes.{zip2}
use Rattle.cq_encodings_plain.specs.Kind.{datum}
use Rattle.cq_encodings_plain.specs.Nulls.{NothingWhere}
use Rattle.cq_encodings_plain.specs.Parts.{IsNoneNull, nulls_of}
use Rattle.cq_values.specs.Lent.{owned}
use Rattle.cq_encodings_numbers.specs.Packed.{FitAbove, above}
use Rattle.cq_encodings_numbers.proofs.offsets.write_offsets.Given as goal

-- the offsets so far and the flags make the values so far
abbrev pub invariant-loop-value : goal.invariant-loop-value
invariant-loop-value g l = record {
  same : zip2 (datum l.kind) (above l.least (g.W.FixedWidth.numbers l.to)) (nulls_of (take l.value-index l.values)) ≡ map owned (take l.value-index l.values);
  clear : NothingWhere 0 (nulls_of (take l.value-index l.values)) (g.W.FixedWidth.numbers l.to);
  fit : FitAbove l.kind l.least (g.W.FixedWidth.numbers l.to);
  none : l.any_null ≡ false → IsNoneNull (take l.value-index l.values);
  long : length (g.W.FixedWidth.numbers l.to) ≡ l.value-index;
  room : length l.values - l.value-index ≤ g.W.FixedWidth.room l.to;
}
