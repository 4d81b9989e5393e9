use Rattle.std.proofs.Common.{◌≡◌, length, take}
use Rattle.cq_hash_keys_values.proofs.widened.put_days.Given as goal

-- the numbers so far are written
abbrev pub invariant-loop-i : goal.invariant-loop-i
invariant-loop-i l = record {
  same : length l.to ≡ length l.fn.to;
  put : take l.i l.to ≡ take l.i l.days;
}
