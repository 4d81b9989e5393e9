use Rattle.cq_segments_pieces.proofs.Marks.{flags-none}
use Rattle.cq_writestore.proofs.tail.Tail.of.Goals as goal

pub returns : goal.returns
returns c = flags-none c.args.rows.now
