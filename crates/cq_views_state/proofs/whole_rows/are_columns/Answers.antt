use Rattle.std.proofs.Common.{◌≡◌, Some, ap, length, refl, slice_get, ◌∙◌, arith, rules}
use Rattle.std.proofs.lemmas.Option.{slice_get_read}
use Rattle.cq_model.specs.Expr.{Expr, Column}
use Rattle.cq_views_state.proofs.WholeRows.{column-more}
use Rattle.cq_views_state.proofs.whole_rows.are_columns.Goals as goal

pub loop-place-preserved : goal.loop-place-preserved
loop-place-preserved c =
    let items = c.args.items.now in
    let place = c.loop-place.place in
    let item = c.index-items-place.result in
    let is : item ≡ Column place = search rules in
    let here : slice_get items place ≡ Some (Column place) =
    slice_get_read items (length items) place item refl (omega arith) c.index-items-place.is ∙ ap (λ (e : Expr). Some e) is in
    column-more items place c.loop-place.invariant here
