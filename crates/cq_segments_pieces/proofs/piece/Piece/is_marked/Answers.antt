use Rattle.std.proofs.Common.{◌∙◌, ap, arith, false, get_or, length, sym}
use Rattle.cq_segments_pieces.specs.Marked.{marks_of}
use Rattle.cq_segments_pieces.proofs.Marks.{length-flags, marks_of-flags}
use Rattle.cq_segments_pieces.proofs.piece.Piece.is_marked.Goals as goal

pub get-requires : goal.get-requires
get-requires c = omega (arith, c.requires, ap length c.self.view_is, length-flags c.self.inside.columns c.self.inside.marks, c.len-count.ensures.len, c.len-count.ensures.few)

pub returns : goal.returns
returns c = c.get.ensures ∙ ap (λ l. get_or l c.args.place false) (sym (marks_of-flags c.self.inside.columns c.self.inside.marks c.self.invariant.long) ∙ ap marks_of c.self.view_is)
