use Rattle.std.proofs.Common.{◌≡◌, [], Some, length, ap, sym, ◌∙◌, arith, rules}
use Rattle.std.specs.Prelude.{slice_get}
use Rattle.std.proofs.lemmas.Option.{slice_get-get_or}
use Rattle.cq_values.specs.Value.{Row}
use Rattle.cq_views_state.proofs.InTurn.{all-more}
use Rattle.cq_views_state.proofs.whole_rows.have_width.Goals as goal

pub loop-place-preserved : goal.loop-place-preserved
loop-place-preserved c =
    let rows = c.args.rows.now in
    let place = c.loop-place.place in
    let row : Row = c.row.result in
    let at : slice_get rows place ≡ Some row = slice_get-get_or rows place [] (omega (arith, c.loop-place-test.true, c.len-place-end.ensures)) ∙ ap Some (sym c.row.ensures) in
    let wide : length row ≡ c.args.width = search rules in
    all-more c.rows_come_in_turn.ensures rows place row at (λ row. length row ≡ c.args.width) c.loop-place.invariant wide
