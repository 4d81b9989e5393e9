use Rattle.std.proofs.Common.{◌≡◌, ◌+◌, ◌-◌, ◌≤◌, length, take}
use Rattle.std.specs.Vec.{vec_capacity, vec_len}
use Rattle.cq_hash_keys.proofs.key_table.KeyTable.keys.Given as goal

-- the keys so far, and room for the others
abbrev pub invariant-loop-key : goal.invariant-loop-key
invariant-loop-key l = record {
  so_far : l.rows.items ≡ take l.key l.self.keys;
  room : vec_len l.rows + (length l.self.keys - l.key) ≤ vec_capacity l.rows;
}
