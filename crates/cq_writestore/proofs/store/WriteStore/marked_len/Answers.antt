use Rattle.std.proofs.Common.{ap, arith}
use Rattle.cq_segments_pieces.specs.Marked.{marked_count}
use Rattle.cq_segments_pieces.proofs.Marks.{count-append}
use Rattle.cq_writestore.proofs.store.WriteStore.marked_len.Goals as goal

pub returns-clause-len : goal.returns-clause-len
returns-clause-len c =
    omega (arith, c.marked_len.ensures.len, c.marked_len-2.ensures.len, count-append c.self.inside.pieces c.self.inside.tail.rows, ap (λ w. marked_count w.rows) c.self.view_is)
