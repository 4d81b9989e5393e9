use Rattle.std.proofs.Common.{◌≡◌, ◌+◌, ◌-◌, ◌≤◌, drop, map, take}
use Rattle.std.specs.Vec.{vec_capacity, vec_len}
use Rattle.cq_values.specs.Lent.{owned}
use Rattle.cq_vectors.specs.Gathered.{column_of}
use Rattle.cq_hash_keys.proofs.key_table.KeyTable.column.Given as goal

-- the values so far, and room for the others
abbrev pub invariant-loop-place : goal.invariant-loop-place
invariant-loop-place l = record {
  so_far : map owned l.values.items ≡ column_of (take l.place (drop l.start l.self.keys)) l.column;
  room : vec_len l.values + (l.len - l.place) ≤ vec_capacity l.values;
}
