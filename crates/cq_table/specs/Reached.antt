-- The segment in which a place stands, among those of segments and behind them the write store.
use Rattle.std.specs.Prelude.{◌≡◌, ◌≤◌, ◌<◌, ◌-◌, ℕ, List, [], length, take, slice_index_or}
use Rattle.cq_segments_pieces.specs.Marked.{MarkedRow}
use Rattle.cq_segments_pieces.specs.Pieces.{joined}
use Rattle.cq_table.specs.declared.placing.Reached.{Reached}

-- it is one of the segments, or the end of them, and the rows before it are counted
pub record IsReached (segments : List (List MarkedRow)) (reached : Reached) : Type 0 where
  pub within : reached.segment ≤ length segments
  pub before : reached.before ≡ length (joined (take reached.segment segments))

-- the place stands in that segment, or behind all segments
pub record HasReached (segments : List (List MarkedRow)) (place : ℕ) (reached : Reached) : Type 0 where
  pub behind : reached.before ≤ place
  pub inside : reached.segment < length segments → place - reached.before < length (slice_index_or segments reached.segment [])
