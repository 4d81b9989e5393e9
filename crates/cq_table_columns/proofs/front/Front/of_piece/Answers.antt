use Rattle.std.proofs.Common.{◌∙◌, ap, sym}
use Rattle.cq_segments_pieces.specs.Marked.{live, rows_of}
use Rattle.cq_segments_pieces.proofs.Marks.{live-unmarked}
use Rattle.cq_table_columns.proofs.front.Front.of_piece.Goals as goal

pub returns-then-is_whole-clause-rows : goal.returns-then-is_whole-clause-rows
returns-then-is_whole-clause-rows c = c.columns.ensures ∙ sym (ap live c.if-is_whole.ensures ∙ live-unmarked (rows_of c.args.piece.now))
