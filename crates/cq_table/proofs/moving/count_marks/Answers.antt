use Rattle.std.proofs.Common.{arith, ap, ◌∙◌}
use Rattle.std.proofs.lemmas.List.{take_all}
use Rattle.cq_segments_pieces.specs.Marked.{marked_count}
use Rattle.cq_segments_pieces.specs.Pieces.{joined}
use Rattle.cq_table.proofs.Segmenting.{counted-next, counted-within}
use Rattle.cq_table.proofs.moving.count_marks.Goals as goal

pub overflow_add-count : goal.overflow_add-count
overflow_add-count c =
    let l = c.loop-segment in
    omega (arith, c.requires, l.invariant, c.marked_len-count.ensures.len, counted-within c.args.segments.now l.segment-index c.segment-item.result c.loop-segment-test.true c.segment-item.is)

pub loop-segment-preserved : goal.loop-segment-preserved
loop-segment-preserved c =
    let l = c.loop-segment in
    omega (arith, l.invariant, c.marked_len-count.ensures.len, counted-next c.args.segments.now l.segment-index c.segment-item.result c.loop-segment-test.true c.segment-item.is)

pub returns : goal.returns
returns c = c.loop-segment.invariant ∙ ap (λ ls. marked_count (joined ls)) (take_all c.loop-segment.segment-index c.args.segments.now (omega (arith, c.loop-segment-test.false, c.loop-segment.auto.segment-index-end)))
