use Rattle.std.proofs.Common.{arith, ap, length, ◌∙◌}
use Rattle.std.proofs.lemmas.List.{take_all}
use Rattle.cq_segments_pieces.specs.Pieces.{joined}
use Rattle.cq_table.proofs.Segmenting.{long-next, long-within}
use Rattle.cq_table.proofs.moving.count_rows.Goals as goal

pub overflow_add-count : goal.overflow_add-count
overflow_add-count c =
    let l = c.loop-segment in
    omega (arith, c.requires, l.invariant, c.len-count.ensures.len, long-within c.args.segments.now l.segment-index c.segment-item.result c.loop-segment-test.true c.segment-item.is)

pub loop-segment-preserved : goal.loop-segment-preserved
loop-segment-preserved c =
    let l = c.loop-segment in
    omega (arith, l.invariant, c.len-count.ensures.len, long-next c.args.segments.now l.segment-index c.segment-item.result c.loop-segment-test.true c.segment-item.is)

pub returns : goal.returns
returns c = c.loop-segment.invariant ∙ ap (λ ls. length (joined ls)) (take_all c.loop-segment.segment-index c.args.segments.now (omega (arith, c.loop-segment-test.false, c.loop-segment.auto.segment-index-end)))
