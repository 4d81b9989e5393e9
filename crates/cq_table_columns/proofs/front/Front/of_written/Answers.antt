use Rattle.std.proofs.Common.{◌∙◌, ap, sym}
use Rattle.cq_segments_pieces.specs.Marked.{live, rows_of}
use Rattle.cq_segments_pieces.proofs.Marks.{live-unmarked}
use Rattle.cq_writestore.specs.Writes.{tail_rows}
use Rattle.cq_table_columns.proofs.front.Front.of_written.Goals as goal

pub returns-then-is_whole-clause-rows : goal.returns-then-is_whole-clause-rows
returns-then-is_whole-clause-rows c = c.rows.ensures.rows ∙ sym (ap live c.if-is_whole.ensures ∙ live-unmarked (rows_of (tail_rows c.args.written.written)))
