use Rattle.std.proofs.Common.{◌≡◌, ◌+◌, length}
use Rattle.cq_hash_groups.proofs.shown.shown_types.Given as goal

-- a type for each column of the key so far
abbrev pub invariant-loop-column : goal.invariant-loop-column
invariant-loop-column l = length l.types.items ≡ l.column

-- and for each aggregate so far
abbrev pub invariant-loop-each : goal.invariant-loop-each
invariant-loop-each l = length l.types.items ≡ l.width + l.each-index
