-- Rows without a mark of which something is True.
use Rattle.std.specs.Prelude.{if◌then◌else◌, Bool, List, [], ◌∷◌}
use Rattle.cq_segments_pieces.specs.Marked.{MarkedRow}
use Rattle.cq_values.specs.Truth.{is_true}
use Rattle.cq_values.specs.Value.{Row}
use Rattle.cq_values.specs.declared.truth.Truth.{Truth}
use Rattle.cq_values.specs.declared.truth.Truth.TheVariants.{False}

-- what is told of a row, and False of one that has a mark
abbrev pub unless_marked : Truth → Bool → Truth
unless_marked truth marked = if marked then False else truth

-- of stored rows those without a mark of which what is told is True
abbrev pub live_true : List Truth → List MarkedRow → List Row
live_true [] stored = []
live_true (t ∷ truths) [] = []
live_true (t ∷ truths) (m ∷ stored) = if is_true (unless_marked t m.marked) then m.row ∷ live_true truths stored else live_true truths stored
