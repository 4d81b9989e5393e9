use Rattle.std.proofs.Common.{◌≡◌, ℕ, ◌<◌, None, length, get_or}
use Rattle.cq_hash_keys_values.specs.Coded.{slot_value}
use Rattle.cq_hash_keys_values.specs.Values.{place_in}
use Rattle.cq_hash_keys_values.proofs.values.Values.find_slots.Given as goal

-- the slots so far have what is found of their values
abbrev pub invariant-loop-slot : goal.invariant-loop-slot
invariant-loop-slot l = record {
  same : length l.found ≡ length l.fn.found;
  looked : (k : ℕ) → k < l.slot → get_or l.found k None ≡ place_in l.self (slot_value l.entries k);
}
