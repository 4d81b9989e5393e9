use Rattle.std.proofs.Common.{◌≡◌, ◌∙◌, ◌++◌, List, ap, arith, length, subst, take}
use Rattle.std.specs.Prelude.{IfOk}
use Rattle.std.proofs.lemmas.List.{length-map, take_all}
use Rattle.cq_segments_pieces.specs.Rows.{row_of, stored_rows}
use Rattle.cq_values.specs.Value.{Row}
use Rattle.cq_writestore_rows.specs.Filling.{Filled}
use Rattle.cq_writestore_rows.proofs.Adding.{adds-next, adds-none, can_follow-next, is_ready}
use Rattle.cq_writestore_rows.proofs.Copied.{next-is, within}
use Rattle.cq_writestore_rows.proofs.copying.filled.Goals as goal

pub loop-row-init : goal.loop-row-init
loop-row-init c = adds-none c.in_ok-filling.filling (ap (λ (f : Filled). f.begun) c.in_ok-filling.ensures)

pub push_row-requires : goal.push_row-requires
push_row-requires c =
    let rows = c.args.rows.now in
    let i = c.loop-row.row-index in
    let row = c.row-item.result in
    let begun = c.in_ok-filling.filling in
    can_follow-next (stored_rows rows) i (row_of row) (within rows i row c.loop-row-test.true c.row-item.is) (next-is rows i row c.loop-row-test.true c.row-item.is)
    begun c.loop-row.filling c.loop-row.invariant (is_ready (stored_rows rows) (length c.args.columns.now) begun c.in_ok-filling.ensures c.requires)

pub loop-row-preserved : goal.loop-row-preserved
loop-row-preserved c =
    let rows = c.args.rows.now in
    let i = c.loop-row.row-index in
    let row = c.row-item.result in
    adds-next (stored_rows rows) i (row_of row) (within rows i row c.loop-row-test.true c.row-item.is) (next-is rows i row c.loop-row-test.true c.row-item.is)
    c.in_ok-filling.filling c.loop-row.filling c.loop-row.invariant c.push_row.new.self c.in_ok-push_row.ensures

pub returns : goal.returns
returns c =
    let rows = stored_rows c.args.rows.now in
    let i = c.loop-row.row-index in
    let all = take_all i rows (omega (arith, c.loop-row-test.false, length-map c.args.rows.now row_of)) in
    let none = ap (λ (f : Filled). f.rows) c.in_ok-filling.ensures in
    subst (λ (l : List Row). IfOk c.finish.result (λ new. new ≡ l)) (c.loop-row.invariant.put ∙ ap (λ (l : List Row). l ++ take i rows) none ∙ all) c.finish.ensures
