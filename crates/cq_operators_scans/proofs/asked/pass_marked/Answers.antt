use Rattle.std.proofs.Common.{List, ◌∙◌, ap, arith, length, map, subst, sym}
use Rattle.std.proofs.lemmas.Bool.{OnTrue_at}
use Rattle.std.proofs.lemmas.List.{length-map}
use Rattle.std.proofs.lemmas.Result.{IfOk-weaker}
use Rattle.std.specs.List.{AllByRecursion}
use Rattle.cq_encodings_vectors.specs.Places.{AreBelow, rows_at}
use Rattle.cq_model.specs.Condition.{holds}
use Rattle.cq_model.specs.Own.{in_place}
use Rattle.cq_model.specs.Trees.{cond_of}
use Rattle.cq_model_bags.proofs.Lists.{all-of}
use Rattle.cq_segments_pieces.specs.Marked.{rows_of}
use Rattle.cq_segments_pieces.proofs.Marks.{length-live, length-rows_of}
use Rattle.cq_table_positions.specs.Live.{live_true}
use Rattle.cq_table_positions.specs.Rows.{rows_in}
use Rattle.cq_values.specs.Value.{Row}
use Rattle.cq_values.specs.declared.truth.Truth.{Truth}
use Rattle.cq_operators_scans.specs.Asked.{IsExactBehind, passing_one}
use Rattle.cq_operators_scans.proofs.KeptPlaces.{kept-live}
use Rattle.cq_operators_scans.proofs.asked.pass_marked.Goals as goal

pub truths_behind-requires-clause-few : goal.truths_behind-requires-clause-few
truths_behind-requires-clause-few c = omega (arith, ap length c.columns.ensures, length-rows_of c.args.piece.now, c.len-len.ensures.len, c.len-len.ensures.few)

pub truths_behind-requires-clause-exact : goal.truths_behind-requires-clause-exact
truths_behind-requires-clause-exact c =
    let exact = IsExactBehind c.args.before (cond_of c.args.condition.now) in
    subst (AllByRecursion exact) (sym c.columns.ensures)
    (all-of exact (λ row. OnTrue_at c.if-is_always_exact.true c.is_always_exact.ensures (in_place c.args.before row)) (rows_of c.args.piece.now))

pub live_true-requires : goal.live_true-requires
live_true-requires c = ap length c.in_ok-truths.ensures ∙ length-map c.columns.result.now _ ∙ ap length c.columns.ensures ∙ length-rows_of c.args.piece.now

pub returns-then-is_always_exact : goal.returns-then-is_always_exact
returns-then-is_always_exact c =
    let test = λ (row : Row). holds (cond_of c.args.condition.now) (in_place c.args.before row) in
    IfOk-weaker c.live_true.result _ _
    (λ rows h. h ∙ ap (λ (ts : List Truth). live_true ts c.args.piece.now) (c.in_ok-truths.ensures ∙ ap (map test) c.columns.ensures) ∙ kept-live test c.args.piece.now)
    c.live_true.ensures

pub passing_places-requires-clause-few : goal.passing_places-requires-clause-few
passing_places-requires-clause-few c = omega (arith, ap length c.in_ok-rows.ensures, length-live c.args.piece.now, c.len-len.ensures.len, c.len-len.ensures.few)

pub passing_places-requires-clause-exact : goal.passing_places-requires-clause-exact
passing_places-requires-clause-exact c = subst (AllByRecursion (IsExactBehind c.args.before (cond_of c.args.condition.now))) (sym c.in_ok-rows.ensures) c.requires

pub at-requires : goal.at-requires
at-requires c = subst (AreBelow (length (rows_in c.in_ok-rows.rows))) (sym c.places.ensures.places) c.in_ok-kept.ensures.there

pub returns : goal.returns
returns c =
    IfOk-weaker c.at.result _ _
    (λ rows h. h ∙ ap (rows_at (rows_in c.in_ok-rows.rows)) c.places.ensures.places ∙ c.in_ok-kept.ensures.rows ∙ ap (passing_one c.args.before c.args.condition.now) c.in_ok-rows.ensures)
    c.at.ensures
