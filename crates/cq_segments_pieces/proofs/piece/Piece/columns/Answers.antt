use Rattle.std.proofs.Common.{◌∙◌, ap, sym}
use Rattle.cq_segments_pieces.specs.Marked.{rows_of}
use Rattle.cq_segments_pieces.proofs.Marks.{rows_of-flags}
use Rattle.cq_segments_pieces.proofs.piece.Piece.columns.Goals as goal

pub returns : goal.returns
returns c = sym (rows_of-flags c.self.inside.columns c.self.inside.marks) ∙ ap rows_of c.self.view_is
