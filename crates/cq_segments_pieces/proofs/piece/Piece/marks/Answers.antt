use Rattle.std.proofs.Common.{◌∙◌, ap, sym}
use Rattle.cq_segments_pieces.specs.Marked.{marks_of}
use Rattle.cq_segments_pieces.proofs.Marks.{marks_of-flags}
use Rattle.cq_segments_pieces.proofs.piece.Piece.marks.Goals as goal

pub returns : goal.returns
returns c = sym (marks_of-flags c.self.inside.columns c.self.inside.marks c.self.invariant.long) ∙ ap marks_of c.self.view_is
