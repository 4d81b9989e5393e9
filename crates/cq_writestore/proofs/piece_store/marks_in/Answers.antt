use Rattle.std.proofs.Common.{◌+◌, ◌∙◌, ap₂, arith, sym}
use Rattle.cq_segments_pieces.proofs.PieceMarks.{count-more, few-more}
use Rattle.cq_writestore.proofs.piece_store.marks_in.Goals as goal

pub overflow_add-count : goal.overflow_add-count
overflow_add-count c =
    let few = few-more c.args.pieces.now c.loop-piece.piece-index c.loop-piece-test.true c.piece-item.result c.piece-item.is in
    omega (arith, few, c.loop-piece.invariant, c.marked_len-count.ensures.len, c.requires)

pub loop-piece-preserved : goal.loop-piece-preserved
loop-piece-preserved c =
    ap₂ (λ a b. a + b) c.loop-piece.invariant c.marked_len-count.ensures.len
    ∙ sym (count-more c.args.pieces.now c.loop-piece.piece-index c.loop-piece-test.true c.piece-item.result c.piece-item.is)
