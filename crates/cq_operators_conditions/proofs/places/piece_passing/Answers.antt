use Rattle.std.proofs.Common.{◌∙◌, ap, ap₂, arith, length, subst, sym}
use Rattle.cq_encodings_vectors.specs.Places.{AreBelow, places_at, rows_at}
use Rattle.cq_segments_pieces.specs.Marked.{live}
use Rattle.cq_table_positions.specs.Rows.{rows_in}
use Rattle.cq_operators_conditions.proofs.Asking.{all-asked, asked-next, exact-next}
use Rattle.cq_operators_conditions.proofs.Standing.{all-left, all-stand, kept-below, stands-kept}
use Rattle.cq_operators_conditions.proofs.places.piece_passing.Goals as goal

pub loop-condition-init : goal.loop-condition-init
loop-condition-init c = record {
  asked = all-left c.args.piece.now _ c.in_ok-passed.ensures c.args.before c.args.conditions.now c.of_piece-front.ensures.few c.requires;
  stands = all-stand c.args.piece.now _ c.in_ok-passed.ensures c.in_ok-places.places.items c.in_ok-places.ensures;
}

pub passing_places-requires-clause-exact : goal.passing_places-requires-clause-exact
passing_places-requires-clause-exact c =
    exact-next c.args.before c.args.conditions.now c.loop-condition.condition-index c.condition-item.result c.loop-condition-test.true c.condition-item.is
    (rows_in c.loop-condition.passed) (live c.args.piece.now) c.loop-condition.invariant.asked

pub copies_at-requires : goal.copies_at-requires
copies_at-requires c =
    let passed = rows_in c.loop-condition.passed in
    let there = subst (AreBelow (length passed)) (sym c.places-in-loop-condition.ensures.places) c.in_ok-kept.ensures.there in
    let below = kept-below c.args.piece.now passed c.loop-condition.places.items c.places-in-loop-condition.result.now c.loop-condition.invariant.stands there in
    rw (← c.as_slice.ensures.value) at below

pub loop-condition-preserved : goal.loop-condition-preserved
loop-condition-preserved c =
    let passed = rows_in c.loop-condition.passed in
    let kept = c.in_ok-passed-2.ensures ∙ ap (rows_at passed) c.places.ensures.places in
    let news = c.in_ok-places-2.ensures 0 in record {
      asked = asked-next c.args.before c.args.conditions.now c.loop-condition.condition-index c.condition-item.result c.loop-condition-test.true c.condition-item.is
          passed (live c.args.piece.now) c.loop-condition.invariant.asked (rows_in c.in_ok-passed-2.passed) (kept ∙ c.in_ok-kept.ensures.rows);
      stands = stands-kept c.args.piece.now passed c.loop-condition.places.items c.in_ok-kept.kept c.loop-condition.invariant.stands c.in_ok-kept.ensures.there
          (rows_in c.in_ok-passed-2.passed) kept c.in_ok-places-2.places.items (news ∙ ap₂ places_at c.as_slice.ensures.value c.places-in-loop-condition.ensures.places);
    }

pub returns-clause-passed : goal.returns-clause-passed
returns-clause-passed c =
    c.loop-condition.invariant.stands.rows
    ∙ all-asked c.args.before c.args.conditions.now c.loop-condition.condition-index (omega (arith, c.loop-condition-test.false)) (rows_in c.loop-condition.passed) (live c.args.piece.now) c.loop-condition.invariant.asked

pub returns-clause-rows : goal.returns-clause-rows
returns-clause-rows c =
    all-asked c.args.before c.args.conditions.now c.loop-condition.condition-index (omega (arith, c.loop-condition-test.false)) (rows_in c.loop-condition.passed) (live c.args.piece.now) c.loop-condition.invariant.asked
