use Rattle.std.proofs.Common.{◌≡◌, ◌++◌}
use Rattle.cq_segments_pieces.specs.Columns.{columns_in}
use Rattle.cq_writestore_rows.specs.TypedColumn.{values_in}
use Rattle.cq_writestore_rows.proofs.filling.piece_of.Given as goal

-- the columns that are encoded, and those that are left
abbrev pub invariant-loop-column : goal.invariant-loop-column
invariant-loop-column l = columns_in l.encoded.items ++ values_in l.column-iterator.rest.items ≡ values_in l.fn.columns.items
