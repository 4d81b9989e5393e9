use Rattle.std.proofs.Common.{ℕ, ◌∙◌, ap, length, subst, sym}
use Rattle.std.proofs.lemmas.Result.{IfOk-weaker}
use Rattle.cq_encodings_vectors.specs.Places.{AreBelow, rows_at}
use Rattle.cq_segments_pieces.specs.Marked.{live_from, rows_of}
use Rattle.cq_segments_pieces.proofs.Marks.{length-rows_of}
use Rattle.cq_table_columns.proofs.LiveRows.{live_at, live_below}
use Rattle.cq_table_positions.proofs.live.live_rows.Goals as goal

pub rows_of_piece-requires : goal.rows_of_piece-requires
rows_of_piece-requires c =
    let stored = c.in-Marked.piece.now in
    let below = subst (λ (n : ℕ). AreBelow n (live_from 0 stored)) (length-rows_of stored) (live_below stored) in
    subst (AreBelow (length stored)) (sym (c.as_slice.ensures.value ∙ c.in_ok-places-in-Marked.ensures)) below

pub returns-in_ok-places-in-Marked : goal.returns-in_ok-places-in-Marked
returns-in_ok-places-in-Marked c =
    let stored = c.in-Marked.piece.now in
    IfOk-weaker c.rows_of_piece.result _ _
    (λ rows h. h ∙ ap (rows_at (rows_of stored)) (c.as_slice.ensures.value ∙ c.in_ok-places-in-Marked.ensures) ∙ live_at stored ∙ c.in-Marked.ensures.rows)
    c.rows_of_piece.ensures
