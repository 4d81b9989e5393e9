use Rattle.std.proofs.Common.{map}
use Rattle.cq_values.specs.Lent.{owned}
use Rattle.cq_values.specs.Order.{number}
use Rattle.cq_vectors.specs.Gathered.{IsDate}
use Rattle.cq_vectors.proofs.Gathering.{Gathers}
use Rattle.cq_encodings_vectors.proofs.narrow.days.Given as goal

-- the days of the values so far
abbrev pub invariant-loop-value : goal.invariant-loop-value
invariant-loop-value l = Gathers number IsDate (map owned l.lent) l.value-index l.values.items l.nulls
