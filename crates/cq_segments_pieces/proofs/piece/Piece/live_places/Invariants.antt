use Rattle.std.proofs.Common.{◌≡◌, ◌≤◌, ◌+◌, ◌-◌, take}
use Rattle.std.specs.Vec.{vec_capacity, vec_len}
use Rattle.cq_segments_pieces.specs.Marked.{live_from}
use Rattle.cq_segments_pieces.proofs.piece.Piece.live_places.Given as goal

-- the places so far, and there is room for the rest
abbrev pub invariant-loop-place : goal.invariant-loop-place
invariant-loop-place l = record {
  places : l.places.items ≡ live_from 0 (take l.place l.self);
  room : vec_len l.places + (l.place-end - l.place) ≤ vec_capacity l.places;
}
