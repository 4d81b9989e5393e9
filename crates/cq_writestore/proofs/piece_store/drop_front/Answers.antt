use Rattle.std.proofs.Common.{◌-◌, ◌∙◌, ap, arith, drop, subst, sym, take}
use Rattle.std.specs.Prelude.{slice_set}
use Rattle.cq_segments_pieces.specs.Pieces.{joined}
use Rattle.cq_writestore.specs.Spots.{IsIn}
use Rattle.cq_writestore_rows.specs.NewRows.{AreWhole}
use Rattle.cq_writestore.proofs.MarkedLists.{turned}
use Rattle.cq_writestore.proofs.SpotLists.{joined-cut, whole-cut}
use Rattle.cq_writestore.proofs.piece_store.drop_front.Goals as goal

pub returns-in-InPiece-clause-rows : goal.returns-in-InPiece-clause-rows
returns-in-InPiece-clause-rows c =
    let lists = c.args.pieces.now.items in
    let gone = c.in-InPiece.gone in
    let cut = c.in-InPiece.cut in
    let is = subst (λ l. IsIn l c.args.count gone cut) c.as_slice.ensures.value c.in-InPiece.ensures in
    let n = c.len.result - gone in
    let left = c.truncate.ensures.items ∙ ap (take n) c.rotate_left.ensures.items ∙ turned gone n lists (omega (arith, is.there)) (omega (arith, c.len.ensures, c.args.pieces.now.ok)) in
    let rest = c.truncate.new.self.items in
    ap (λ l. joined (slice_set rest 0 l)) c.cut_front.ensures
    ∙ joined-cut lists c.args.count gone cut is rest left c.index_mut.result.now c.index_mut.ensures.value

pub returns-in-InPiece-clause-whole : goal.returns-in-InPiece-clause-whole
returns-in-InPiece-clause-whole c =
    let lists = c.args.pieces.now.items in
    let gone = c.in-InPiece.gone in
    let cut = c.in-InPiece.cut in
    let is = subst (λ l. IsIn l c.args.count gone cut) c.as_slice.ensures.value c.in-InPiece.ensures in
    let n = c.len.result - gone in
    let left = c.truncate.ensures.items ∙ ap (take n) c.rotate_left.ensures.items ∙ turned gone n lists (omega (arith, is.there)) (omega (arith, c.len.ensures, c.args.pieces.now.ok)) in
    let rest = c.truncate.new.self.items in
    subst (λ l. AreWhole (drop 1 (slice_set rest 0 l))) (sym c.cut_front.ensures)
    (whole-cut lists c.args.count gone cut is rest left c.index_mut.result.now c.index_mut.ensures.value c.requires)
