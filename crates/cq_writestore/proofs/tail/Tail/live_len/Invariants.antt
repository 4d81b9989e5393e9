use Rattle.std.proofs.Common.{◌≡◌, ◌≤◌, length, take}
use Rattle.cq_segments_pieces.specs.Marked.{live_from}
use Rattle.cq_writestore.specs.Writes.{tail_rows}
use Rattle.cq_writestore.proofs.tail.Tail.live_len.Given as goal

-- the live rows so far are counted
abbrev pub invariant-loop-place : goal.invariant-loop-place
invariant-loop-place l = (l.count ≡ length (live_from 0 (take l.place (tail_rows l.self)))) × (l.count ≤ l.place)
