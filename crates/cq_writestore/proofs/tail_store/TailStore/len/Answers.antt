use Rattle.std.proofs.Common.{ap, arith, length}
use Rattle.cq_segments_pieces.proofs.Marks.{length-flags}
use Rattle.cq_writestore.proofs.tail_store.TailStore.len.Goals as goal

pub returns-clause-len : goal.returns-clause-len
returns-clause-len c = omega (arith, c.len.ensures, c.self.inside.rows.ok, length-flags c.self.inside.rows.items c.self.inside.marks.items, ap (λ w. length w.rows) c.self.view_is)
