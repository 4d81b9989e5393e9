use Rattle.std.proofs.Common.{sym}
use Rattle.cq_segments_pieces.proofs.Marks.{rows_of-flags}
use Rattle.cq_writestore.proofs.front.WrittenFront.rows.Goals as goal

pub returns-clause-rows : goal.returns-clause-rows
returns-clause-rows c = sym (rows_of-flags c.args.self.now.written.rows.now c.args.self.now.written.marks.now)
