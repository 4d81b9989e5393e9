use Rattle.std.proofs.Common.{◌≡◌, take}
use Rattle.std.specs.List.{range_with_len}
use Rattle.cq_table_positions.proofs.places.are_all.Given as goal

-- the places so far are counted from 0
abbrev pub invariant-loop-place : goal.invariant-loop-place
invariant-loop-place l = take l.place l.places ≡ range_with_len 0 l.place
