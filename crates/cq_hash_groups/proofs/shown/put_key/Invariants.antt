use Rattle.std.proofs.Common.{◌≡◌, length, take}
use Rattle.cq_hash_keys.specs.Keys.{HasValues, key_at}
use Rattle.cq_hash_groups.proofs.shown.put_key.Given as goal

-- the row has begun with the first values of the key
abbrev pub invariant-loop-column : goal.invariant-loop-column
invariant-loop-column l = record {
  rows : l.filling.rows ≡ l.fn.filling.rows;
  wide : l.filling.width ≡ l.fn.filling.width;
  count : length l.filling.begun ≡ l.column;
  key : HasValues l.width (key_at l.found.keys l.group) → l.filling.begun ≡ take l.column (key_at l.found.keys l.group);
}
