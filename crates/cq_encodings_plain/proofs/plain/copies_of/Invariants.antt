use Rattle.std.proofs.Common.{map, take, ◌≡◌}
use Rattle.cq_values.specs.Lent.{owned}
use Rattle.cq_encodings_plain.proofs.plain.copies_of.Given as goal

abbrev pub invariant-loop-value : goal.invariant-loop-value
invariant-loop-value l = l.copies.items ≡ map owned (take l.value-index l.values)
