use Rattle.std.proofs.Common.{drop, map, ◌≡◌}
use Rattle.cq_values.specs.Lent.{owned}
use Rattle.cq_encodings_plain.specs.Kind.{first_kind}
use Rattle.cq_encodings_plain.proofs.kind.kind_of.Given as goal

-- the values that remain have the kind of all
abbrev pub invariant-loop-value : goal.invariant-loop-value
invariant-loop-value l = first_kind (map owned l.values) ≡ first_kind (map owned (drop l.value-index l.values))
