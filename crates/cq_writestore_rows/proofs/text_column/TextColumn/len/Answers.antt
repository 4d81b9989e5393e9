use Rattle.std.proofs.Common.{ap, length, sym, ◌∙◌}
use Rattle.cq_vectors_stored.specs.Columns.{text_unless}
use Rattle.cq_encodings_plain.proofs.Zipped.{length-zipped}
use Rattle.cq_writestore_rows.proofs.text_column.TextColumn.len.Goals as goal

pub returns : goal.returns
returns c =
    let inside = c.self.inside in
    c.len.ensures.len ∙ sym (length-zipped text_unless inside.texts inside.nulls c.self.invariant.0) ∙ ap length c.self.view_is
