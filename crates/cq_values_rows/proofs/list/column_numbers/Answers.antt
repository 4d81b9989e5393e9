use Rattle.std.proofs.Common.{◌≡◌, ◌<◌, ◌∙◌, List, [], Option, None, Some, ap, length, map, subst, sym}
use Rattle.std.specs.Option.{IfSome}
use Rattle.std.specs.Prelude.{slice_index_or}
use Rattle.cq_values.specs.declared.value.Value.{Value}
use Rattle.cq_values_rows.specs.Columns.{column_of}
use Rattle.cq_values_rows.specs.RowList.{rows_in}
use Rattle.cq_values_rows.proofs.Columns.{column_kept}
use Rattle.cq_values_rows.proofs.list.column_numbers.Goals as goal

weaker : {T : Type 0} (found : Option T) (P Q : T → Type 0) → ((x : T) → P x → Q x) → IfSome found P → IfSome found Q
weaker None P Q h is = tt
weaker (Some x) P Q h is = h x is

-- the column is what its numbers are
pub returns-in-Some : goal.returns-in-Some
returns-in-Some c =
    let rows = c.args.rows.now in
    let columns = rows.columns.items in
    let at = c.args.at in
    let item = c.in-Some.ensures.lookup in
    let within : at < length columns = subst (λ (cs : List (List Value)). at < length cs) c.as_slice.ensures.value item.3.0 in
    let read : c.in-Some.values.now ≡ slice_index_or columns at [] = item.3.1 [] ∙ ap (λ (cs : List (List Value)). slice_index_or cs at []) c.as_slice.ensures.value in
    weaker c.as_numbers.result _ _ (λ numbers is. sym is ∙ read ∙ sym (column_kept columns rows.len at c.requires within)) c.as_numbers.ensures
