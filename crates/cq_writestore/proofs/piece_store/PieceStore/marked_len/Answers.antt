use Rattle.std.proofs.Common.{ap, arith, length}
use Rattle.cq_segments_pieces.specs.Pieces.{joined}
use Rattle.cq_segments_pieces.proofs.PieceMarks.{few_marks}
use Rattle.cq_writestore.proofs.piece_store.PieceStore.marked_len.Goals as goal

pub returns-clause-few : goal.returns-clause-few
returns-clause-few c = omega (arith, c.self.invariant.marks, few_marks (joined c.self.inside.pieces.items), ap length c.self.view_is)
