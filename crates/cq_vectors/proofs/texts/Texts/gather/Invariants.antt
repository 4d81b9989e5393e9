use Rattle.cq_vectors_stored.specs.Columns.{texts_of}
use Rattle.cq_values.specs.Order.{bytes}
use Rattle.cq_vectors.specs.Gathered.{IsText, column_of, lent_rows}
use Rattle.cq_vectors.proofs.Gathering.{Gathers}
use Rattle.cq_vectors.proofs.texts.Texts.gather.Given as goal

-- the texts of the rows so far
abbrev pub invariant-loop-row : goal.invariant-loop-row
invariant-loop-row l = Gathers bytes IsText (column_of (lent_rows l.rows) l.column) l.row-index (texts_of l.values.items) l.nulls
