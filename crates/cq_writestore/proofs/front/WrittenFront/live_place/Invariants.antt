use Rattle.std.proofs.Common.{◌≡◌, ◌+◌, length, take}
use Rattle.cq_segments_pieces.specs.Marked.{live_from}
use Rattle.cq_writestore.specs.Writes.{tail_rows}
use Rattle.cq_writestore.proofs.front.WrittenFront.live_place.Given as goal

-- so many live rows are still to be passed
abbrev pub invariant-loop-place : goal.invariant-loop-place
invariant-loop-place l = l.left + length (live_from 0 (take l.place (tail_rows l.self.written))) ≡ l.count
