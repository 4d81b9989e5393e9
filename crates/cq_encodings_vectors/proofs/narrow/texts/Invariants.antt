use Rattle.std.proofs.Common.{map}
use Rattle.cq_vectors_stored.specs.Columns.{texts_of}
use Rattle.cq_values.specs.Lent.{owned}
use Rattle.cq_values.specs.Order.{bytes}
use Rattle.cq_vectors.specs.Gathered.{IsText}
use Rattle.cq_vectors.proofs.Gathering.{Gathers}
use Rattle.cq_encodings_vectors.proofs.narrow.texts.Given as goal

-- the texts of the values so far
abbrev pub invariant-loop-value : goal.invariant-loop-value
invariant-loop-value l = Gathers bytes IsText (map owned l.lent) l.value-index (texts_of l.values.items) l.nulls
