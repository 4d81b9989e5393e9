use Rattle.std.proofs.Common.{◌≡◌, ◌∙◌, ◌∷◌, ◌++◌, [], ap, ap₂, arith, get_or, length, sym}
use Rattle.std.proofs.lemmas.List.{get_or-map, length-map, take_all}
use Rattle.std.proofs.lemmas.List.FromFn.{map-range_with_len_more}
use Rattle.cq_vectors.specs.Batch.{row_at}
use Rattle.cq_writestore_rows.specs.TypedColumn.{column_values, values_in}
use Rattle.cq_writestore_rows.proofs.filling.rows_in.Goals as goal

pub value_at-requires : goal.value_at-requires
value_at-requires c =
    let columns = c.args.columns.now in
    let i = c.loop-column.column-index in
    let here : get_or (values_in columns) i [] ≡ column_values c.column-item.result = get_or-map column_values columns i c.column-item.result [] c.loop-column-test.true ∙ ap column_values (sym c.column-item.is) in
    omega (arith, c.requires i (omega (arith, c.loop-column-test.true, length-map columns column_values)), ap length here, c.loop-place-test.true)

pub loop-place-preserved : goal.loop-place-preserved
loop-place-preserved c =
    let columns = c.args.columns.now in
    let place = c.loop-place.place in
    let all = take_all c.loop-column.column-index columns (omega (arith, c.loop-column-test.false)) in
    c.in_ok-push-2.ensures.items
    ∙ ap₂ (λ l r. l ++ r ∷ []) c.loop-place.invariant (c.loop-column.invariant ∙ ap (λ l. row_at (values_in l) place) all)
    ∙ sym (map-range_with_len_more (row_at (values_in columns)) 0 place place (omega arith))
