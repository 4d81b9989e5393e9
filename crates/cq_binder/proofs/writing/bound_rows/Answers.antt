use Rattle.std.proofs.Common.{◌≡◌, ◌∙◌, ◌+◌, ◌++◌, ◌∷◌, [], List, map, take, sym, ap}
use Rattle.std.proofs.lemmas.List.{map-append, take_more}
use Rattle.std.proofs.lemmas.Option.{get_or_from_slice_get, slice_get_within}
use Rattle.std.proofs.lemmas.Result.{err_from_is_err_and}
use Rattle.cq_sql_language.specs.declared.statement.Constant.{Constant}
use Rattle.cq_values.specs.Value.{Row}
use Rattle.cq_binder_rules.specs.Bound.{row_of}
use Rattle.cq_binder_queries.proofs.Faults.{rows_more, passed, refused_first, refused_same}
use Rattle.cq_binder.proofs.writing.bound_rows.Goals as goal

pub returns-in_err-bound_row : goal.returns-in_err-bound_row
returns-in_err-bound_row c =
    let p = err_from_is_err_and c.from_residual-in_err-bound_row.result c.from_residual-in_err-bound_row.ensures.1 in
    let rows = c.args.rows.now in
    let place = c.loop-place.place in
    let row = c.row.result.now in
    let m = rows_more c.args.columns.now rows place row (slice_get_within rows place row c.row.ensures) (sym (get_or_from_slice_get rows place row row c.row.ensures)) in
    rw (p.1, p.2) (refused_same _ _ _ (sym c.loop-place.invariant.1 ∙ m) (refused_first _ _ _ c.in_err-bound_row.ensures))

pub loop-place-preserved : goal.loop-place-preserved
loop-place-preserved c =
    let rows = c.args.rows.now in
    let place = c.loop-place.place in
    let row = c.row.result.now in
    let within = slice_get_within rows place row c.row.ensures in
    let is = sym (get_or_from_slice_get rows place row row c.row.ensures) in
    let m = rows_more c.args.columns.now rows place row within is in
    let one_more : take (place + 1) rows ≡ take place rows ++ row ∷ [] = take_more rows place row within ∙ ap (λ (r : List Constant). take place rows ++ r ∷ []) (sym is) in
    let so_far = ap (λ (made : List Row). made ++ row_of row ∷ []) c.loop-place.invariant.0 ∙ sym (map-append row_of (take place rows) (row ∷ [])) ∙ ap (map row_of) (sym one_more) in
    (c.in_ok-push.ensures.items ∙ ap (λ (made : Row). c.loop-place.made.items ++ made ∷ []) c.in_ok-bound_row.ensures.1 ∙ so_far, passed _ _ _ _ c.in_ok-bound_row.ensures.0 m c.loop-place.invariant.1)
