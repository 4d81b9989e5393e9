use Rattle.std.proofs.Common.{ℕ, List, ◌+◌, ◌≡◌, ◌++◌, ◌∷◌, [], take, ap, ◌∙◌, arith, sym, subst, append_assoc}
use Rattle.std.proofs.lemmas.Grind.{flat_map-append}
use Rattle.std.proofs.lemmas.List.{append-nil, take_more}
use Rattle.std.specs.List.{flat_map}
use Rattle.cq_csvio.specs.Lines.{Holds}
use Rattle.cq_values.specs.Printed.{row_text}
use Rattle.cq_values.specs.Value.{Row}
use Rattle.cq_csvio.proofs.result.add_rows.Goals as goal

-- one row more stands as its line
pub loop-place-preserved : goal.loop-place-preserved
loop-place-preserved c text held =
    let rows = c.args.rows.now in
    let place = c.loop-place.place in
    let row : Row = c.row.result in
    let more : take (place + 1) rows ≡ take place rows ++ row ∷ [] =
    take_more rows place [] (omega (arith, c.loop-place-test.true, c.len-place-end.ensures)) ∙ ap (λ (r : Row). take place rows ++ r ∷ []) (sym c.row.ensures) in
    let longer : (text ++ flat_map row_text (take place rows)) ++ row_text row ≡ text ++ flat_map row_text (take (place + 1) rows) =
    rw (more, flat_map-append row_text (take place rows) (row ∷ []), append-nil (row_text row)) (append_assoc text (flat_map row_text (take place rows)) (row_text row)) in
    subst (λ (t : List ℕ). Holds c.add_row.new.lines.writer t []) longer (c.in_ok-add_row.ensures _ (c.loop-place.invariant text held))
