use Rattle.std.proofs.Common.{take, ◌≡◌}
use Rattle.std.specs.List.{AllByRecursion}
use Rattle.cq_table.specs.Whole.{IsWhole}
use Rattle.cq_table.proofs.whole.whole_pieces.Given as goal

-- all pieces so far are whole
abbrev pub invariant-loop-piece : goal.invariant-loop-piece
invariant-loop-piece l = record {
  counted : l.count ≡ l.piece-index;
  whole : AllByRecursion IsWhole (take l.piece-index l.pieces);
}
