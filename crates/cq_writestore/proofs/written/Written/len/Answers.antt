use Rattle.std.proofs.Common.{arith}
use Rattle.cq_segments_pieces.proofs.Marks.{length-flags}
use Rattle.cq_writestore.proofs.written.Written.len.Goals as goal

pub overflow_add-result : goal.overflow_add-result
overflow_add-result c =
    let tail = c.args.self.now.tail in
    omega (arith, c.rows_in.ensures, c.len.ensures, c.args.self.now.few, length-flags tail.rows.now tail.marks.now)
