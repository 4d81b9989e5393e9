use Rattle.std.proofs.Common.{◌≡◌, take}
use Rattle.cq_writestore_rows.proofs.new_rows.shared.Given as goal

-- those so far
abbrev pub invariant-loop-piece : goal.invariant-loop-piece
invariant-loop-piece l = l.shared.items ≡ take l.piece-index l.pieces
