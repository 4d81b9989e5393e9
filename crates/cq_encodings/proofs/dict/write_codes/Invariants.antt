use Rattle.std.proofs.Common.{length, map, take, ◌-◌, ◌<◌, ◌≡◌, ◌≤◌}
use Rattle.std.specs.List.{All, fold}
use Rattle.std.specs.Simd.Lanes.{zip2}
use Rattle.cq_encodings_plain.specs.Nulls.{NothingWhere}
use Rattle.cq_encodings_plain.specs.Parts.{nulls_of}
use Rattle.cq_values.specs.Lent.{owned}
use Rattle.cq_vectors_stored.specs.Columns.{text_unless}
use Rattle.cq_encodings.specs.Dict.{coded, with_text}
use Rattle.cq_encodings.proofs.dict.write_codes.Given as goal

-- the numbers so far and the flags make the values so far
abbrev pub invariant-loop-value : goal.invariant-loop-value
invariant-loop-value g l = record {
  same : zip2 text_unless (coded l.known (g.W.FixedWidth.numbers l.to)) (nulls_of (take l.value-index l.values)) ≡ map owned (take l.value-index l.values);
  met : l.known ≡ fold with_text l.initial.known (map owned (take l.value-index l.values));
  clear : NothingWhere 0 (nulls_of (take l.value-index l.values)) (g.W.FixedWidth.numbers l.to);
  within : All (λ code. code < length l.known) (g.W.FixedWidth.numbers l.to);
  some : 0 < length l.known;
  long : length (g.W.FixedWidth.numbers l.to) ≡ l.value-index;
  seen : l.seen ≡ l.value-index;
  room : length l.values - l.value-index ≤ g.W.FixedWidth.room l.to;
}
