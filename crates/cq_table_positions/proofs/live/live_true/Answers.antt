use Rattle.std.proofs.Common.{◌∙◌, ap, length, subst, sym}
use Rattle.std.proofs.lemmas.List.{length-map}
use Rattle.std.proofs.lemmas.Result.{IfOk-weaker}
use Rattle.std.specs.Simd.Lanes.{zip2}
use Rattle.cq_encodings_vectors.specs.Places.{AreBelow, rows_at}
use Rattle.cq_segments_pieces.specs.Marked.{rows_of}
use Rattle.cq_table_positions.specs.Live.{unless_marked}
use Rattle.cq_table_positions.proofs.LiveTrue.{true-below, true-rows}
use Rattle.cq_table_positions.proofs.live.live_true.Goals as goal

pub leave_out-requires : goal.leave_out-requires
leave_out-requires c = c.requires ∙ sym (ap length c.marks.ensures ∙ length-map c.args.piece.now _)

pub rows_of_piece-requires : goal.rows_of_piece-requires
rows_of_piece-requires c =
    let told = c.leave_out.ensures ∙ ap (zip2 unless_marked c.args.truths) c.marks.ensures in
    subst (AreBelow (length c.args.piece.now)) (sym c.places.ensures.places) (true-below c.args.truths c.args.piece.now c.leave_out.new.truths told c.requires c.set_true.new.self c.set_true.ensures)

pub returns : goal.returns
returns c =
    let told = c.leave_out.ensures ∙ ap (zip2 unless_marked c.args.truths) c.marks.ensures in
    IfOk-weaker c.rows_of_piece.result _ _
    (λ rows h. h ∙ ap (rows_at (rows_of c.args.piece.now)) c.places.ensures.places ∙ true-rows c.args.truths c.args.piece.now c.leave_out.new.truths told c.requires c.set_true.new.self c.set_true.ensures)
    c.rows_of_piece.ensures
