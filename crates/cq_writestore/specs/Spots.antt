-- Where the items of lists stand, of which each but the first has 1,024.
use Rattle.std.specs.Prelude.{◌≡◌, ◌<◌, ◌+◌, ℕ, List, [], drop, length, slice_index_or, take}
use Rattle.cq_segments_pieces.specs.Marked.{MarkedRow, marked_count}
use Rattle.cq_segments_pieces.specs.Pieces.{joined}
use Rattle.cq_writestore.specs.declared.spot.Spot.{Spot}
use Rattle.cq_writestore.specs.declared.spot.Spot.TheVariants.{Behind, InPiece}
use Rattle.cq_writestore_rows.specs.NewRows.{AreWhole}

-- the item at a place stands in this list, at a place there
pub record IsIn {X : Type 0} (lists : List (List X)) (place k at : ℕ) : Type 0 where
  pub there : k < length lists
  pub within : at < length (slice_index_or lists k [])
  pub before : length (joined (take k lists)) + at ≡ place

-- or it is so far behind all of them
abbrev pub IsSpot : List (List MarkedRow) → ℕ → Spot → Type 0
IsSpot lists place (InPiece k at) = IsIn lists place k at
IsSpot lists place (Behind at) = length (joined lists) + at ≡ place

-- lists of which each but the first is whole have so many rows, and so many of these have a mark
pub record AreHeld (lists : List (List MarkedRow)) (len marked : ℕ) : Type 0 where
  pub whole : AreWhole (drop 1 lists)
  pub rows : len ≡ length (joined lists)
  pub marks : marked ≡ marked_count (joined lists)
