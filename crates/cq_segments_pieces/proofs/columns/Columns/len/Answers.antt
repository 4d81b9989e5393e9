use Rattle.std.proofs.Common.{◌∙◌, ap, length, sym}
use Rattle.cq_segments_pieces.proofs.Parts.{length-rows_of_part}
use Rattle.cq_segments_pieces.proofs.columns.Columns.len.Goals as goal

pub returns-clause-len : goal.returns-clause-len
returns-clause-len c = sym (length-rows_of_part c.self.inside.encoded.value.items c.self.inside.part c.self.inside.from c.self.inside.count) ∙ ap length c.self.view_is
