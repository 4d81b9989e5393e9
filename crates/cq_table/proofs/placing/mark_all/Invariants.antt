use Rattle.std.proofs.Common.{◌≡◌, ◌++◌, length, map, take}
use Rattle.cq_segments_pieces.specs.Marked.{with_marks}
use Rattle.cq_segments_pieces.specs.Pieces.{joined}
use Rattle.cq_table.specs.Reached.{IsReached}
use Rattle.cq_table.proofs.placing.mark_all.Given as goal

-- the rows at the places so far are marked, and all stand where they stood
abbrev pub invariant-loop-place : goal.invariant-loop-place
invariant-loop-place l = record {
  stored : joined l.segments.items ++ l.written.rows ≡ with_marks (take l.place-index l.places) (joined l.initial.segments.items ++ l.initial.written.rows);
  segments : map length l.segments.items ≡ map length l.initial.segments.items;
  written : length l.written.rows ≡ length l.initial.written.rows;
  reached : IsReached l.segments.items l.reached;
}
