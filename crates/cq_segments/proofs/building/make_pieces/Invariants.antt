use Rattle.std.proofs.Common.{◌≡◌, ◌<◌, ◌-◌, ◌*◌, ℕ, [], get_or, length, min, take}
use Rattle.cq_segments_pieces.specs.Columns.{encoded_rows}
use Rattle.cq_segments_pieces.specs.Marked.{unmarked}
use Rattle.cq_segments_pieces.specs.Pieces.{joined}
use Rattle.cq_segments.proofs.building.make_pieces.Given as goal

-- the pieces so far have the rows so far, each 1,024 of them or as many as are left
abbrev pub invariant-loop-part : goal.invariant-loop-part
invariant-loop-part l = record {
  rows : joined l.made.items ≡ unmarked (take (1024 * l.part) (encoded_rows l.encoded.value.items l.len));
  as_many : length l.made.items ≡ l.part;
  lengths : (k : ℕ) → k < length l.made.items → length (get_or l.made.items k []) ≡ min 1024 (length (encoded_rows l.encoded.value.items l.len) - 1024 * k);
}
