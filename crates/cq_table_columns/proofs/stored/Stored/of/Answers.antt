use Rattle.std.proofs.Common.{◌∙◌, ap, length, sym}
use Rattle.cq_segments_pieces.specs.Marked.{live}
use Rattle.cq_segments_pieces.proofs.Marks.{live-unmarked}
use Rattle.cq_table_columns.proofs.stored.Stored.of.Goals as goal

pub invariant_of-result : goal.invariant_of-result
invariant_of-result c = record { counted = sym (ap (λ s. length (live s)) c.of.ensures ∙ ap length (live-unmarked c.args.rows.now)) }

pub returns : goal.returns
returns c = ap live c.of.ensures ∙ live-unmarked c.args.rows.now
