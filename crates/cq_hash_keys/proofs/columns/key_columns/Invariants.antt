use Rattle.std.proofs.Common.{◌≡◌, ◌≤◌, ◌+◌, ◌-◌, length, take}
use Rattle.std.specs.Vec.{vec_capacity, vec_len}
use Rattle.cq_hash_keys.specs.Keys.{values_of}
use Rattle.cq_hash_keys.proofs.columns.key_columns.Given as goal

-- the columns so far, and room for the rest
abbrev pub invariant-loop-column : goal.invariant-loop-column
invariant-loop-column l = record {
  so_far : values_of l.read.items ≡ take l.column-index l.columns;
  room : vec_len l.read + (length l.columns - l.column-index) ≤ vec_capacity l.read;
}
