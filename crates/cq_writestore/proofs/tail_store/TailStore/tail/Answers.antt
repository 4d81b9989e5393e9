use Rattle.std.proofs.Common.{◌∙◌, ap, length, sym}
use Rattle.cq_segments_pieces.proofs.Marks.{length-flags}
use Rattle.cq_writestore.proofs.tail_store.TailStore.tail.Goals as goal

pub returns-clause-len : goal.returns-clause-len
returns-clause-len c = ap length c.as_slice.ensures.value ∙ sym (length-flags c.self.inside.rows.items c.self.inside.marks.items) ∙ ap (λ w. length w.rows) c.self.view_is

pub returns-clause-marks : goal.returns-clause-marks
returns-clause-marks c = ap length c.as_slice-2.ensures.value ∙ c.self.invariant.long ∙ sym (length-flags c.self.inside.rows.items c.self.inside.marks.items) ∙ ap (λ w. length w.rows) c.self.view_is
