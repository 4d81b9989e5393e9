use Rattle.std.proofs.Common.{◌∙◌, ◌+◌, ap, arith, false, get_or, subst, sym}
use Rattle.std.specs.Prelude.{slice_set}
use Rattle.std.proofs.lemmas.List.{get_or_default}
use Rattle.cq_segments_pieces.specs.Marked.{marks_of, with_mark}
use Rattle.cq_segments_pieces.specs.Pieces.{joined}
use Rattle.cq_segments_pieces.proofs.Marks.{mark-again}
use Rattle.cq_segments_pieces.proofs.PieceMarks.{few_marks}
use Rattle.cq_writestore.specs.Spots.{AreHeld, IsIn}
use Rattle.cq_writestore.proofs.SpotLists.{held-marked, mark_in, mark_read}
use Rattle.cq_writestore.proofs.piece_store.PieceStore.mark.Goals as goal

pub overflow_add-self : goal.overflow_add-self
overflow_add-self c =
    let pieces = c.self.inside.pieces.items in
    let place = c.args.place in
    let k = c.in-InPiece.piece in
    let at = c.in-InPiece.at in
    let is = subst (λ l. IsIn l place k at) c.as_slice.ensures.value c.in-InPiece.ensures in
    let free = ap (λ l. get_or (marks_of l) at false) (c.index_mut.ensures.value ∙ get_or_default pieces k c.index_mut.result.now c.index.result.now is.there ∙ sym c.index.ensures) ∙ sym c.is_marked.ensures ∙ c.if-not-is_marked.true in
    let held = held-marked pieces place k at is c.index_mut.result.now c.index_mut.ensures.value c.self.inside.len c.self.inside.marked c.self.invariant free in
    omega (arith, held.rows, held.marks, few_marks (joined (slice_set pieces k (with_mark at c.index_mut.result.now))), c.self.ranges)

pub invariant_of-self : goal.invariant_of-self
invariant_of-self c =
    let pieces = c.self.inside.pieces.items in
    let place = c.args.place in
    let k = c.in-InPiece.piece in
    let at = c.in-InPiece.at in
    let is = subst (λ l. IsIn l place k at) c.as_slice.ensures.value c.in-InPiece.ensures in
    let free = ap (λ l. get_or (marks_of l) at false) (c.index_mut.ensures.value ∙ get_or_default pieces k c.index_mut.result.now c.index.result.now is.there ∙ sym c.index.ensures) ∙ sym c.is_marked.ensures ∙ c.if-not-is_marked.true in
    let held = held-marked pieces place k at is c.index_mut.result.now c.index_mut.ensures.value c.self.inside.len c.self.inside.marked c.self.invariant free in
    subst (λ l. AreHeld (slice_set pieces k l) c.self.inside.len (c.self.inside.marked + 1)) (sym c.mark.ensures) held

pub returns-then-not-is_marked : goal.returns-then-not-is_marked
returns-then-not-is_marked c =
    let pieces = c.self.inside.pieces.items in
    let place = c.args.place in
    let k = c.in-InPiece.piece in
    let at = c.in-InPiece.at in
    let is = subst (λ l. IsIn l place k at) c.as_slice.ensures.value c.in-InPiece.ensures in
    ap (λ l. joined (slice_set pieces k l)) c.mark.ensures ∙ mark_in pieces place k at is c.index_mut.result.now c.index_mut.ensures.value ∙ ap (with_mark place) c.self.view_is

pub returns-else-not-is_marked : goal.returns-else-not-is_marked
returns-else-not-is_marked c =
    let place = c.args.place in
    let k = c.in-InPiece.piece in
    let at = c.in-InPiece.at in
    let is = subst (λ l. IsIn l place k at) c.as_slice.ensures.value c.in-InPiece.ensures in
    let set = ap (λ l. get_or (marks_of l) place false) (sym c.self.view_is)
    ∙ sym (mark_read c.self.inside.pieces.items place k at is c.index.result.now c.index.ensures) ∙ sym c.is_marked.ensures ∙ c.if-not-is_marked.false in
    sym (mark-again c.args.self.now place set)
