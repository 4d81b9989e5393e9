use Rattle.std.proofs.Common.{◌∙◌, ◌<◌, [], arith, length, subst}
use Rattle.std.proofs.lemmas.List.{get_or_default, take_all}
use Rattle.cq_segments_pieces.specs.Rows.{row_of}
use Rattle.cq_writestore_rows.specs.Filling.{Adds}
use Rattle.cq_writestore_rows.proofs.Adding.{adds-next, adds-none, can_follow-next}
use Rattle.cq_writestore.proofs.refilled.put_columns.Goals as goal

pub loop-place-init : goal.loop-place-init
loop-place-init c = adds-none c.args.filling.now c.requires.none

pub push_row-requires : goal.push_row-requires
push_row-requires c =
    let rows = c.args.columns.now in
    let place = c.loop-place.place in
    let row = row_of c.row.result in
    let lt : place < length rows = omega (arith, c.loop-place-test.true, c.len-place-end.ensures.len) in
    can_follow-next rows place row lt (c.row.ensures ∙ get_or_default rows place [] row lt) c.args.filling.now c.loop-place.filling c.loop-place.invariant c.requires

pub loop-place-preserved : goal.loop-place-preserved
loop-place-preserved c =
    let rows = c.args.columns.now in
    let place = c.loop-place.place in
    let row = row_of c.row.result in
    let lt : place < length rows = omega (arith, c.loop-place-test.true, c.len-place-end.ensures.len) in
    adds-next rows place row lt (c.row.ensures ∙ get_or_default rows place [] row lt) c.args.filling.now c.loop-place.filling c.loop-place.invariant c.push_row.new.self c.in_ok-push_row.ensures

pub returns : goal.returns
returns c =
    let rows = c.args.columns.now in
    subst (λ l. Adds l c.args.filling.now c.loop-place.filling) (take_all c.loop-place.place rows (omega (arith, c.loop-place-test.false, c.len-place-end.ensures.len))) c.loop-place.invariant
