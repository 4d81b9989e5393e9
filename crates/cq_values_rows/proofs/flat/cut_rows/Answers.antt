use Rattle.std.proofs.Common.{◌∙◌, arith, sym}
use Rattle.std.specs.Vec.Iter.{into_iter_items}
use Rattle.cq_values_rows.specs.Flat.{rows_from}
use Rattle.cq_values_rows.proofs.Cutting.{all_cut, next_last, next_left, next_rises, next_within, row_next}
use Rattle.cq_values_rows.proofs.flat.cut_rows.Goals as goal

pub overflow_sub-end : goal.overflow_sub-end
overflow_sub-end c =
    let rises = next_rises c.args.ends.now c.loop-end.end-index (omega arith) c.loop-end.start c.loop-end.invariant.rising in
    omega (arith, rises.0)

pub take_row-requires : goal.take_row-requires
take_row-requires c =
    next_within c.args.ends.now c.loop-end.end-index (omega arith) c.loop-end.start c.loop-end.invariant.rising _ _ c.loop-end.invariant.left c.loop-end.invariant.last c.requires.within

pub loop-end-preserved : goal.loop-end-preserved
loop-end-preserved c =
    let ends = c.args.ends.now in
    let i = c.loop-end.end-index in
    let start = c.loop-end.start in
    let so_far = c.loop-end.invariant in
    record {
      rows = row_next ends i (omega arith) start so_far.rising _ _ so_far.left c.in_ok-row.row c.in_ok-row.ensures.row _ _ _ so_far.rows c.in_ok-push.ensures.items;
      left = next_left ends i (omega arith) start so_far.rising _ _ so_far.left _ c.in_ok-row.ensures.left;
      rising = (next_rises ends i (omega arith) start so_far.rising).1;
      last = sym (next_last ends i (omega arith) start) ∙ so_far.last;
    }

pub returns : goal.returns
returns c =
    let ends = c.args.ends.now in
    let values = into_iter_items c.args.left in
    all_cut ends c.loop-end.end-index c.loop-end.start values c.loop-end.rows.items (rows_from 0 ends values) (omega arith) c.loop-end.invariant.rows
