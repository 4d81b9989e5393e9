use Rattle.std.proofs.Common.{◌≡◌, take}
use Rattle.cq_hash_keys.specs.Keys.{key_at}
use Rattle.cq_hash_keys.proofs.key_table.KeyTable.key.Given as goal

-- the values of the columns so far
abbrev pub invariant-loop-column : goal.invariant-loop-column
invariant-loop-column l = l.row ≡ take l.column (key_at l.self.keys l.key)
