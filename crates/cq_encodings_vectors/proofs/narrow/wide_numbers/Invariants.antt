use Rattle.std.proofs.Common.{map}
use Rattle.std.specs.Int.{w128}
use Rattle.cq_values.specs.Lent.{owned}
use Rattle.cq_values.specs.Order.{number}
use Rattle.cq_vectors.specs.Gathered.{IsNumber}
use Rattle.cq_vectors.proofs.Gathering.{Gathers}
use Rattle.cq_encodings_vectors.proofs.narrow.wide_numbers.Given as goal

-- the numbers of the values so far
abbrev pub invariant-loop-value : goal.invariant-loop-value
invariant-loop-value l = Gathers number (IsNumber w128) (map owned l.lent) l.value-index l.values.items l.nulls
