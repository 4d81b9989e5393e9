use Rattle.std.proofs.Common.{ap, arith, length}
use Rattle.cq_segments_pieces.proofs.Parts.{length-rows_of_part}
use Rattle.cq_segments_pieces.proofs.columns.Columns.cut_front.Goals as goal

pub invariant_of-self : goal.invariant_of-self
invariant_of-self c =
    let was = c.self.invariant in
    let len = length-rows_of_part c.self.inside.encoded.value.items c.self.inside.part c.self.inside.from c.self.inside.count in
    record { early = was.early; left = omega (arith, c.requires, ap length c.self.view_is, len, was.left); are = was.are }
