use Rattle.std.proofs.Common.{◌≡◌, map, replicate, take}
use Rattle.cq_values.specs.Lent.{owned}
use Rattle.cq_values.specs.declared.value.Value.TheVariants.{Null}
use Rattle.cq_encodings_vectors.proofs.narrow.first_value.Given as goal

-- the values so far are NULL
abbrev pub invariant-loop-value : goal.invariant-loop-value
invariant-loop-value l = take l.value-index (map owned l.lent) ≡ replicate l.value-index Null
