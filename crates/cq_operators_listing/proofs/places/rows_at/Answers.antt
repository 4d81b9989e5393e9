use Rattle.std.proofs.Common.{List, ap, arith, length, sym, subst, ◌∙◌}
use Rattle.std.proofs.lemmas.List.{take_all}
use Rattle.cq_values.specs.declared.value.Value.{Value}
use Rattle.cq_values_rows.specs.Columns.{AreLong, rows_of_columns}
use Rattle.cq_values_rows.proofs.Columns.{copied, copied_at, copied_long}
use Rattle.cq_operators_listing.proofs.places.rows_at.Goals as goal

-- all columns are copied
pub of_columns-requires : goal.of_columns-requires
of_columns-requires c =
    let places = c.args.places.now in
    let columns = c.args.columns.now in
    let all = take_all c.loop-values.values-index columns (omega (arith, c.loop-values-test.false)) in
    subst (AreLong (length places)) (sym (c.loop-values.invariant ∙ ap (copied places) all)) (copied_long places columns)

pub returns : goal.returns
returns c =
    let places = c.args.places.now in
    let columns = c.args.columns.now in
    let all = take_all c.loop-values.values-index columns (omega (arith, c.loop-values-test.false)) in
    c.of_columns.ensures
    ∙ ap (λ (copies : List (List Value)). rows_of_columns copies (length places)) (c.loop-values.invariant ∙ ap (copied places) all)
    ∙ copied_at places columns
