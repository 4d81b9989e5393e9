use Rattle.std.proofs.Common.{◌≡◌, drop, map, take}
use Rattle.std.specs.List.{range_with_len}
use Rattle.cq_vectors.specs.Gathered.{column_of}
use Rattle.cq_operators_joins.proofs.distinct.key_batch.Given as goal

-- the columns so far are those of the keys
abbrev pub invariant-loop-column : goal.invariant-loop-column
invariant-loop-column l = l.columns.items ≡ map (column_of (take l.len (drop l.start l.keys.keys))) (range_with_len 0 l.column)
