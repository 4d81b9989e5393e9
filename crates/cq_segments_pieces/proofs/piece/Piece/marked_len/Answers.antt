use Rattle.std.proofs.Common.{ap, arith}
use Rattle.cq_segments_pieces.specs.Marked.{marked_count}
use Rattle.cq_segments_pieces.proofs.Marks.{length-live}
use Rattle.cq_segments_pieces.proofs.piece.Piece.marked_len.Goals as goal

pub returns-clause-few : goal.returns-clause-few
returns-clause-few c = omega (arith, c.self.invariant.count, ap marked_count c.self.view_is, length-live c.args.self.now)
