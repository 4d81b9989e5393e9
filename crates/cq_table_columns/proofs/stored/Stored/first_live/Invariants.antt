use Rattle.std.proofs.Common.{◌≡◌, ◌++◌, length, take}
use Rattle.cq_segments_pieces.specs.Marked.{live}
use Rattle.cq_segments_pieces.specs.Rows.{stored_rows}
use Rattle.cq_table_columns.specs.Stored.{stored_marked}
use Rattle.cq_table_columns.proofs.stored.Stored.first_live.Given as goal

-- the live rows so far, and those that are still among the first
abbrev pub invariant-loop-more : goal.invariant-loop-more
invariant-loop-more l = stored_rows l.rows.items ++ live (take l.more (stored_marked l.left)) ≡ live (take l.count (stored_marked l.self))

abbrev pub decreases-loop-more : goal.decreases-loop-more
decreases-loop-more l = length (stored_marked l.left)
