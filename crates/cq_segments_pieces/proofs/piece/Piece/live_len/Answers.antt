use Rattle.std.proofs.Common.{ap, arith, length}
use Rattle.cq_segments_pieces.specs.Marked.{live, with_flags}
use Rattle.cq_segments_pieces.proofs.Marks.{length-flags, length-live}
use Rattle.cq_segments_pieces.proofs.piece.Piece.live_len.Goals as goal

pub overflow_sub-result : goal.overflow_sub-result
overflow_sub-result c =
    let rows = c.self.inside.columns in
    let flags = c.self.inside.marks in
    omega (arith, c.len.ensures.len, c.self.invariant.count, length-live (with_flags rows flags), length-flags rows flags)

pub returns : goal.returns
returns c =
    let rows = c.self.inside.columns in
    let flags = c.self.inside.marks in
    omega (arith, c.len.ensures.len, c.self.invariant.count, length-live (with_flags rows flags), length-flags rows flags, ap (λ s. length (live s)) c.self.view_is)
