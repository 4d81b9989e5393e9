use Rattle.std.proofs.Common.{◌≡◌, take}
use Rattle.std.specs.List.{range_with_len}
use Rattle.cq_vectors_masks.proofs.selection.count_up.Given as goal

-- the first i places are written
abbrev pub invariant-loop-i : goal.invariant-loop-i
invariant-loop-i l = take l.i l.to ≡ range_with_len 0 l.i
