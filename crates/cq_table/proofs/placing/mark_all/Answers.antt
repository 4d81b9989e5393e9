use Rattle.std.proofs.Common.{◌∙◌, ◌<◌, ◌++◌, List, ℕ, ap, arith, get_or, length, subst, sym, take}
use Rattle.std.proofs.lemmas.List.{take_more}
use Rattle.cq_model_bags.proofs.Lists.{all-at}
use Rattle.cq_segments_pieces.specs.Marked.{MarkedRow, with_mark, with_marks}
use Rattle.cq_segments_pieces.specs.Pieces.{joined}
use Rattle.cq_table.specs.Reached.{IsReached}
use Rattle.cq_table.proofs.Founds.{marks-more}
use Rattle.cq_table.proofs.Marking.{length-with_marks}
use Rattle.cq_table.proofs.Segmenting.{still-reached}
use Rattle.cq_table.proofs.placing.mark_all.Goals as goal

pub mark_at-requires-clause-within : goal.mark_at-requires-clause-within
mark_at-requires-clause-within c =
    let old = joined c.args.segments.now.items ++ c.args.written.now.rows in
    let places = c.args.places.now in
    let l = c.loop-place in
    let there = all-at (λ (n : ℕ). n < length old) places l.place-index 0 c.loop-place-test.true c.requires in
    omega (arith, there, ap length l.invariant.stored, length-with_marks (take l.place-index places) old)

pub loop-place-preserved : goal.loop-place-preserved
loop-place-preserved c =
    let old = joined c.args.segments.now.items ++ c.args.written.now.rows in
    let places = c.args.places.now in
    let l = c.loop-place in
    let place = get_or places l.place-index 0 in
    let so_far = l.invariant in
    record {
      stored =
          c.mark_at.ensures.stored ∙ ap (with_mark place) so_far.stored ∙ sym (marks-more (take l.place-index places) place old)
          ∙ ap (λ (ps : List ℕ). with_marks ps old) (sym (take_more places l.place-index 0 c.loop-place-test.true));
      segments = c.mark_at.ensures.segments ∙ so_far.segments;
      written = c.mark_at.ensures.written ∙ so_far.written;
      reached = still-reached l.segments.items c.mark_at.new.segments.items c.reach-reached.result (sym c.mark_at.ensures.segments)
          (subst (λ (segments : List (List MarkedRow)). IsReached segments c.reach-reached.result) c.deref.ensures.value c.reach-reached.ensures.reached);
    }
