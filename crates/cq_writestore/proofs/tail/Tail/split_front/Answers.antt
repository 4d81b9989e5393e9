use Rattle.std.proofs.Common.{ap, arith, length}
use Rattle.std.proofs.lemmas.List.{length-take}
use Rattle.cq_segments_pieces.proofs.Marks.{length-flags}
use Rattle.cq_writestore.specs.Writes.{tail_rows}
use Rattle.cq_writestore.proofs.tail.Tail.split_front.Goals as goal

pub split_at-requires : goal.split_at-requires
split_at-requires c = omega (arith, c.min.ensures, length-flags c.args.self.now.rows.now c.args.self.now.marks.now)

pub new-requires : goal.new-requires
new-requires c =
    let front = c.split_at.result.0 in
    omega (arith, c.min.ensures, length-flags front.rows.now front.marks.now, ap length c.split_at.ensures.front, length-take c.min.result (tail_rows c.args.self.now))
