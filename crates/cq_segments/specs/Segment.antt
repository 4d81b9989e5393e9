-- What holds of each segment.
use Rattle.std.specs.Prelude.{◌<◌, ◌≡◌, ◌≤◌, ℕ, List, length, slice_index_or}
use Rattle.cq_values.specs.Value.{Row}
use Rattle.cq_encodings.specs.declared.any_encoded.AnyEncoded.{AnyEncoded}
use Rattle.cq_vectors.specs.Gathered.{column_of}
use Rattle.cq_encodings_numbers.specs.Bounds.{AreBounds}
use Rattle.cq_segments_pieces.specs.Columns.{AreWide, columns_in, columns_of}
use Rattle.cq_segments_pieces.specs.Marked.{MarkedRow, rows_of}
use Rattle.cq_segments_pieces.specs.Pieces.{AreFull, joined}
use Rattle.cq_segments.specs.declared.held_bounds.HeldBounds.{HeldBounds}

-- each column of the rows has its bounds
abbrev pub HaveBounds : List HeldBounds → List Row → Type 0
HaveBounds bounds rows = (at : ℕ) (b : HeldBounds) → at < length bounds → AreBounds (slice_index_or bounds at b).has_null (slice_index_or bounds at b).ends (column_of rows at)

-- 1 to 65,536 rows of one width, 1,024 to a piece, with their columns and the bounds of each
pub record IsSegment (encoded : List AnyEncoded) (pieces : List (List MarkedRow)) (bounds : List HeldBounds) : Type 0 where
  pub some : 0 < length (joined pieces)
  pub few : length (joined pieces) ≤ 65536
  pub full : AreFull pieces
  pub wide : AreWide (length bounds) (rows_of (joined pieces))
  pub bounded : HaveBounds bounds (rows_of (joined pieces))
  pub columns : columns_in encoded ≡ columns_of (rows_of (joined pieces)) (length bounds)
