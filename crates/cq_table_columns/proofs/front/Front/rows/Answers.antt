use Rattle.std.proofs.Common.{◌∙◌, ap, ap₂, length, subst, sym}
use Rattle.std.proofs.lemmas.Result.{IfOk-weaker}
use Rattle.cq_segments_pieces.specs.Marked.{rows_of}
use Rattle.cq_encodings_vectors.specs.Places.{AreBelow, rows_at}
use Rattle.cq_writestore.specs.Writes.{tail_rows}
use Rattle.cq_table_columns.specs.Stored.{front_rows}
use Rattle.cq_table_columns.proofs.LiveRows.{live_at, live_below}
use Rattle.cq_table_columns.proofs.front.Front.rows.Goals as goal

pub rows_at-requires : goal.rows_at-requires
rows_at-requires c =
    let stored = c.in-Marked.piece.now in
    let places = c.deref.ensures.value ∙ c.in_ok-places-in-Marked.ensures in
    subst (λ l. AreBelow (length l) c.deref.result.now) (sym c.columns.ensures) (subst (AreBelow (length (rows_of stored))) (sym places) (live_below stored))

pub rows_at-requires-in-Written : goal.rows_at-requires-in-Written
rows_at-requires-in-Written c =
    let stored = tail_rows c.in-Written.written.written in
    let places = c.deref-in-Written.ensures.value ∙ c.in_ok-places-in-Written.ensures in
    subst (λ l. AreBelow (length l) c.deref-in-Written.result.now) (sym c.rows.ensures.rows) (subst (AreBelow (length (rows_of stored))) (sym places) (live_below stored))

pub returns-in_ok-places-in-Marked : goal.returns-in_ok-places-in-Marked
returns-in_ok-places-in-Marked c =
    let stored = c.in-Marked.piece.now in
    let places = c.deref.ensures.value ∙ c.in_ok-places-in-Marked.ensures in
    let all = ap₂ rows_at c.columns.ensures places ∙ live_at stored ∙ ap front_rows (sym c.in-Marked.is) in
    IfOk-weaker c.rows_at.result _ _ (λ rows is. is ∙ all) c.rows_at.ensures

pub returns-in_ok-places-in-Written : goal.returns-in_ok-places-in-Written
returns-in_ok-places-in-Written c =
    let stored = tail_rows c.in-Written.written.written in
    let places = c.deref-in-Written.ensures.value ∙ c.in_ok-places-in-Written.ensures in
    let all = ap₂ rows_at c.rows.ensures.rows places ∙ live_at stored ∙ ap front_rows (sym c.in-Written.is) in
    IfOk-weaker c.rows_at-in-Written.result _ _ (λ rows is. is ∙ all) c.rows_at-in-Written.ensures
