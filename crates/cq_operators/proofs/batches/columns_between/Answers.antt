use Rattle.std.proofs.Common.{◌∙◌, ◌∷◌, ◌++◌, [], List, ap₂, arith, sym}
use Rattle.std.proofs.lemmas.List.FromFn.{map-range_with_len_more}
use Rattle.cq_values.specs.declared.value.Value.{Value}
use Rattle.cq_operators.specs.Batches.{between, column_in}
use Rattle.cq_operators.proofs.batches.columns_between.Goals as goal

-- with the next column they are one more
pub loop-column-preserved : goal.loop-column-preserved
loop-column-preserved c =
    let rows = between c.args.start c.args.end c.args.list.now in
    c.in_ok-push.ensures.items
    ∙ ap₂ (λ (columns : List (List Value)) (column : List Value). columns ++ column ∷ []) c.loop-column.invariant c.in_ok-column_between.ensures
    ∙ sym (map-range_with_len_more (λ place. column_in place rows) 0 c.loop-column.column c.loop-column.column (omega arith))
