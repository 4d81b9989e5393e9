use Rattle.std.proofs.Common.{◌∙◌, ◌+◌, ap, ap₂, arith, length, sym}
use Rattle.std.proofs.lemmas.List.{take_all}
use Rattle.cq_segments_pieces.specs.Marked.{marked_count}
use Rattle.cq_segments_pieces.specs.Pieces.{joined}
use Rattle.cq_segments_pieces.proofs.PieceMarks.{count-more, few-more, few_marks}
use Rattle.cq_segments.proofs.segment.Segment.marked_len.Goals as goal

pub overflow_add-count : goal.overflow_add-count
overflow_add-count c =
    let pieces = c.deref-piece-items.result.now in
    let few = few-more pieces c.loop-piece.piece-index c.loop-piece-test.true c.piece-item.result c.piece-item.is in
    omega (arith, few, c.loop-piece.invariant, c.marked_len-count.ensures.len, ap (λ l. length (joined l)) c.deref-piece-items.ensures.value, c.self.invariant.few)

pub loop-piece-preserved : goal.loop-piece-preserved
loop-piece-preserved c =
    let pieces = c.deref-piece-items.result.now in
    ap₂ (λ a b. a + b) c.loop-piece.invariant c.marked_len-count.ensures.len ∙ sym (count-more pieces c.loop-piece.piece-index c.loop-piece-test.true c.piece-item.result c.piece-item.is)

pub returns-clause-len : goal.returns-clause-len
returns-clause-len c =
    let pieces = c.deref-piece-items.result.now in
    c.loop-piece.invariant ∙ ap (λ l. marked_count (joined l)) (take_all c.loop-piece.piece-index pieces c.loop-piece-test.false ∙ c.deref-piece-items.ensures.value) ∙ ap marked_count c.self.view_is

pub returns-clause-few : goal.returns-clause-few
returns-clause-few c =
    let pieces = c.deref-piece-items.result.now in
    let all = c.loop-piece.invariant ∙ ap (λ l. marked_count (joined l)) (take_all c.loop-piece.piece-index pieces c.loop-piece-test.false ∙ c.deref-piece-items.ensures.value) ∙ ap marked_count c.self.view_is in
    omega (arith, all, few_marks c.args.self.now)
