use Rattle.std.proofs.Common.{ℕ, List, ◌∙◌, ap, length, subst, sym}
use Rattle.std.proofs.lemmas.Result.{IfOk-weaker}
use Rattle.cq_encodings_vectors.specs.Places.{AreBelow, rows_at}
use Rattle.cq_segments_pieces.proofs.Marks.{length-rows_of}
use Rattle.cq_values.specs.Value.{Row}
use Rattle.cq_table_positions.proofs.live.rows_of_piece.Goals as goal

pub at-requires : goal.at-requires
at-requires c = subst (λ (n : ℕ). AreBelow n c.args.places.now) (sym (ap length c.columns.ensures ∙ length-rows_of c.args.piece.now)) c.requires

pub returns : goal.returns
returns c = IfOk-weaker c.at.result _ _ (λ r h. h ∙ ap (λ (rows : List Row). rows_at rows c.args.places.now) c.columns.ensures) c.at.ensures
