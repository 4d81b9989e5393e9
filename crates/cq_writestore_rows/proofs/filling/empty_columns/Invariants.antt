use Rattle.std.proofs.Common.{◌≡◌, [], replicate}
use Rattle.cq_writestore_rows.specs.TypedColumn.{values_in}
use Rattle.cq_writestore_rows.proofs.filling.empty_columns.Given as goal

-- the columns so far have no values
abbrev pub invariant-loop-ty : goal.invariant-loop-ty
invariant-loop-ty l = values_in l.columns.items ≡ replicate l.ty-index []
