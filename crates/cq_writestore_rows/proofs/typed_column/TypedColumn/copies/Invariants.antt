use Rattle.std.proofs.Common.{◌≡◌, take}
use Rattle.cq_writestore_rows.specs.TypedColumn.{column_values}
use Rattle.cq_writestore_rows.proofs.typed_column.TypedColumn.copies.Given as goal

-- the values so far
abbrev pub invariant-loop-place : goal.invariant-loop-place
invariant-loop-place l = l.copies.items ≡ take l.place (column_values l.self)
