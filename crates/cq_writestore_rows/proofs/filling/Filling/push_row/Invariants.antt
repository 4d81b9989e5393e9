use Rattle.std.proofs.Common.{◌≡◌, take}
use Rattle.cq_segments_pieces.specs.Rows.{row_of}
use Rattle.cq_writestore_rows.proofs.filling.Filling.push_row.Given as goal

-- the values so far are there, and no row has ended
abbrev pub invariant-loop-column : goal.invariant-loop-column
invariant-loop-column l = record {
  rows : l.self.rows ≡ l.initial.self.rows;
  begun : l.self.begun ≡ take l.column (row_of l.row);
  wide : l.self.width ≡ l.initial.self.width;
}
