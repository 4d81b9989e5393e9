use Rattle.std.proofs.Common.{◌∙◌, ap, sym}
use Rattle.cq_segments_pieces.specs.Marked.{rows_of}
use Rattle.cq_segments_pieces.proofs.Marks.{rows_of-unmarked}
use Rattle.cq_table_columns.specs.Stored.{marked_rows}
use Rattle.cq_table_columns.proofs.front.Front.columns.Goals as goal

pub returns-in-Columns : goal.returns-in-Columns
returns-in-Columns c = sym (rows_of-unmarked c.in-Columns.columns.now) ∙ ap (λ f. rows_of (marked_rows f)) (sym c.in-Columns.is)
