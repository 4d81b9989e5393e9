use Rattle.std.proofs.Common.{sym}
use Rattle.cq_segments_pieces.proofs.Marks.{length-flags}
use Rattle.cq_writestore.proofs.tail.Tail.len.Goals as goal

pub returns : goal.returns
returns c = sym (length-flags c.args.self.now.rows.now c.args.self.now.marks.now)
