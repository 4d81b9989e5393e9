use Rattle.std.proofs.Common.{◌∙◌, ap, length, sym}
use Rattle.cq_segments_pieces.proofs.Marks.{length-flags}
use Rattle.cq_segments_pieces.proofs.piece.Piece.len.Goals as goal

pub returns-clause-len : goal.returns-clause-len
returns-clause-len c = c.len.ensures.len ∙ sym (length-flags c.self.inside.columns c.self.inside.marks) ∙ ap length c.self.view_is
