use Rattle.std.proofs.Common.{◌∙◌, ap, ap₂, arith, length, subst, sym}
use Rattle.std.proofs.lemmas.Result.{IfOk-weaker}
use Rattle.cq_segments_pieces.specs.Marked.{rows_of}
use Rattle.cq_encodings_vectors.specs.Places.{AreBelow, rows_at}
use Rattle.cq_segments_pieces.proofs.Marks.{length-live_from}
use Rattle.cq_vectors.specs.Gathered.{column_of}
use Rattle.cq_table_columns.specs.Stored.{front_rows}
use Rattle.cq_table_columns.proofs.LiveRows.{live_at, live_below}
use Rattle.cq_table_columns.proofs.front.Front.gather.Goals as goal

pub gather_at-requires-clause-few : goal.gather_at-requires-clause-few
gather_at-requires-clause-few c =
    let stored = c.in-Marked.piece.now in
    let places = c.deref.ensures.value ∙ c.in_ok-places-in-Marked.ensures in
    omega (arith, c.requires, ap (λ f. length (front_rows f)) c.in-Marked.is, ap length places, length-live_from 0 stored)

pub gather_at-requires-clause-there : goal.gather_at-requires-clause-there
gather_at-requires-clause-there c =
    let stored = c.in-Marked.piece.now in
    let places = c.deref.ensures.value ∙ c.in_ok-places-in-Marked.ensures in
    subst (λ l. AreBelow (length l) c.deref.result.now) (sym c.columns.ensures) (subst (AreBelow (length (rows_of stored))) (sym places) (live_below stored))

pub returns-in_ok-places-in-Marked : goal.returns-in_ok-places-in-Marked
returns-in_ok-places-in-Marked c =
    let stored = c.in-Marked.piece.now in
    let places = c.deref.ensures.value ∙ c.in_ok-places-in-Marked.ensures in
    let all = ap₂ rows_at c.columns.ensures places ∙ live_at stored ∙ ap front_rows (sym c.in-Marked.is) in
    IfOk-weaker c.gather_at.result _ _ (λ v is. is ∙ ap (λ l. column_of l c.args.column) all) c.gather_at.ensures
