use Rattle.std.proofs.Common.{arith}
use Rattle.cq_model_bags.proofs.Canonicals.{length-bag_of}
use Rattle.cq_segments_pieces.specs.Marked.{live}
use Rattle.cq_segments_pieces.specs.Pieces.{joined}
use Rattle.std.proofs.Common.{◌++◌}
use Rattle.cq_table.proofs.table.Table.len.Goals as goal

pub returns : goal.returns
returns c = rw (← c.self.view_is) (omega (arith, c.self.invariant.counted, length-bag_of (live (joined c.self.inside.segments.items ++ c.self.inside.written.rows))))
