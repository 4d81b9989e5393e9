use Rattle.std.proofs.Common.{◌≡◌, pos, ◌+ℤ◌, length, map, take}
use Rattle.cq_vectors_stored.specs.Offsets.{offsets_in}
use Rattle.cq_hash_keys_values.proofs.widened.put_above.Given as goal

-- the numbers so far are written
abbrev pub invariant-loop-i : goal.invariant-loop-i
invariant-loop-i l = record {
  same : length l.to ≡ length l.fn.to;
  put : take l.i l.to ≡ map (λ o. l.base +ℤ pos o) (take l.i (offsets_in l.offsets));
}
