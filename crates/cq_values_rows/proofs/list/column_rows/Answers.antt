use Rattle.std.proofs.Common.{List, ◌++◌, ◌∷◌, [], ◌∙◌, ap, ap₂, sym, arith}
use Rattle.std.proofs.lemmas.List.FromFn.{map-range_with_len_more}
use Rattle.cq_values.specs.declared.value.Value.{Value}
use Rattle.cq_values.specs.Value.{Row}
use Rattle.cq_values_rows.specs.Columns.{row_at}
use Rattle.cq_values_rows.proofs.list.column_rows.Goals as goal

-- one row more is made
pub loop-place-preserved : goal.loop-place-preserved
loop-place-preserved c =
    let place = c.loop-place.place in
    c.in_ok-push.ensures.items
    ∙ ap₂ (λ (rows : List Row) (row : Row). rows ++ row ∷ []) c.loop-place.invariant (c.in_ok-row_of.ensures ∙ ap (λ (columns : List (List Value)). row_at columns place) c.as_slice.ensures.value)
    ∙ sym (map-range_with_len_more (row_at c.args.rows.now.columns.items) 0 place place (omega arith))
