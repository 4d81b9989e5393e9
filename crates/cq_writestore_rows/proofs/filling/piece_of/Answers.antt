use Rattle.std.proofs.Common.{◌≡◌, IfOk, List, arith, subst}
use Rattle.cq_segments_pieces.specs.Columns.{columns_in, rows_of_columns}
use Rattle.cq_segments_pieces.specs.Marked.{unmarked}
use Rattle.cq_values.specs.declared.value.Value.{Value}
use Rattle.cq_writestore_rows.specs.TypedColumn.{values_in}
use Rattle.cq_writestore_rows.proofs.NextFilling.{all_done}
use Rattle.cq_writestore_rows.proofs.filling.piece_of.Goals as goal

pub returns : goal.returns
returns c =
    let left = c.loop-column.column-iterator.rest in
    let all = all_done (columns_in c.loop-column.encoded.items) (values_in c.args.columns.items) left.items c.loop-column.invariant (omega (arith, left.ok.0, c.in-None.ensures.steps.0)) in
    subst (λ (l : List (List Value)). IfOk c.of_columns.result (λ p. p ≡ unmarked (rows_of_columns l 1024))) all c.of_columns.ensures
