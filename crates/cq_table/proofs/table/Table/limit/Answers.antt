use Rattle.std.proofs.Common.{◌++◌, arith}
use Rattle.cq_model_bags.proofs.Canonicals.{length-bag_of}
use Rattle.cq_segments_pieces.specs.Marked.{live}
use Rattle.cq_segments_pieces.specs.Pieces.{joined}
use Rattle.cq_table.proofs.table.Table.limit.Goals as goal

pub invariant_of-self : goal.invariant_of-self
invariant_of-self c =
    let rows = live (joined c.self.inside.segments.items ++ c.self.inside.written.rows) in
    record {
      sound = record { fitting = c.self.invariant.sound.fitting; limited = omega (arith, length-bag_of rows, rw (← c.self.view_is) at c.requires) };
      counted = c.self.invariant.counted;
      few = c.self.invariant.few;
      wide = c.self.invariant.wide;
    }
