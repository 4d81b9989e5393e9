use Rattle.std.proofs.Common.{◌≡◌, List, arith, length, subst, sym, ◌∙◌}
use Rattle.std.proofs.lemmas.List.{length-map, take_all}
use Rattle.cq_model_bags.proofs.Lists.{all-next}
use Rattle.cq_segments_pieces.specs.Columns.{AreWide}
use Rattle.cq_segments_pieces.specs.Rows.{row_of, stored_rows}
use Rattle.cq_values.specs.Value.{Row}
use Rattle.cq_writestore_rows.proofs.Copied.{next-is, within}
use Rattle.cq_writestore_rows.proofs.copying.are_wide.Goals as goal

pub loop-row-preserved : goal.loop-row-preserved
loop-row-preserved c =
    let rows = c.args.rows.now in
    let i = c.loop-row.row-index in
    let row = c.row-item.result in
    let wide : length (row_of row) ≡ c.args.width = sym c.len.ensures ∙ c.if-len-width.false in
    all-next (λ (r : Row). length r ≡ c.args.width) (stored_rows rows) i (row_of row) (within rows i row c.loop-row-test.true c.row-item.is) (next-is rows i row c.loop-row-test.true c.row-item.is) c.loop-row.invariant wide

pub returns : goal.returns
returns c =
    let rows = c.args.rows.now in
    subst (λ (l : List Row). AreWide c.args.width l) (take_all c.loop-row.row-index (stored_rows rows) (omega (arith, c.loop-row-test.false, length-map rows row_of))) c.loop-row.invariant
