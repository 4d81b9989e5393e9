use Rattle.std.proofs.Common.{◌∙◌, ◌+◌, ◌++◌, List, ℕ, ap, arith, length}
use Rattle.std.specs.Prelude.{slice_index_or}
use Rattle.cq_model.specs.Meaning.{keeps}
use Rattle.cq_segments_pieces.proofs.Marks.{length-live}
use Rattle.cq_table_columns.specs.Stored.{marked_rows}
use Rattle.cq_table.proofs.Founds.{front-live, kept_at, kept_in, kept_live, kept_within, none-placed, placed-all, placed-more}
use Rattle.cq_table.proofs.finding.find_kept.Goals as goal

pub kept_places-requires-clause-few : goal.kept_places-requires-clause-few
kept_places-requires-clause-few c = omega (arith, c.requires.few, ap length (front-live c.args.front.now), length-live (marked_rows c.args.front.now))

pub index-requires : goal.index-requires
index-requires c =
    let kept = kept_in (keeps c.args.condition.now) c.args.front.now _ _ _ c.in_ok-live.ensures c.places-place-items.ensures.places c.in_ok-kept.ensures in
    omega (arith, kept_live kept c.loop-place-test.true c.from.ensures, c.in_ok-live.live.ok.0)

pub overflow_add-before : goal.overflow_add-before
overflow_add-before c =
    let kept = kept_in (keeps c.args.condition.now) c.args.front.now _ _ _ c.in_ok-live.ensures c.places-place-items.ensures.places c.in_ok-kept.ensures in
    omega (arith, c.requires.counted, c.from-in-loop-place.ensures, kept_within kept c.loop-place-test.true c.from.ensures c.index.ensures)

pub loop-place-preserved : goal.loop-place-preserved
loop-place-preserved c =
    let kept = kept_in (keeps c.args.condition.now) c.args.front.now _ _ _ c.in_ok-live.ensures c.places-place-items.ensures.places c.in_ok-kept.ensures in
    let put : ℕ → ℕ = λ j. c.args.before + slice_index_or c.in_ok-live.live.items j 0 in
    let at = c.from-in-loop-place.ensures ∙ kept_at kept c.loop-place-test.true c.from.ensures c.index.ensures in
    c.in_ok-push.ensures.items
    ∙ placed-more put c.args.found.now.items c.loop-place.found.items c.places-place-items.result.now c.loop-place.place-index c.loop-place-test.true c.loop-place.invariant (c.args.before + c.from-in-loop-place.result)
    (ap (λ (n : ℕ). c.args.before + n) at)

pub returns-then-len-eq0 : goal.returns-then-len-eq0
returns-then-len-eq0 c =
    none-placed (keeps c.args.condition.now) c.args.before c.args.front.now _ c.args.found.now.items (omega (arith, c.if-len-eq0.true, c.len.ensures.len)) c.in_ok-kept.ensures

pub returns : goal.returns
returns c =
    let kept = kept_in (keeps c.args.condition.now) c.args.front.now _ _ _ c.in_ok-live.ensures c.places-place-items.ensures.places c.in_ok-kept.ensures in
    c.loop-place.invariant ∙ ap (λ (ps : List ℕ). c.args.found.now.items ++ ps) (placed-all kept c.args.before c.loop-place.place-index c.loop-place-test.false)
