use Rattle.std.proofs.Common.{◌≡◌, ◌≤◌, ◌-◌, length, take}
use Rattle.cq_values.specs.declared.value.Value.TheVariants.{Null}
use Rattle.cq_vectors_stored.specs.LentColumns.{entries_at}
use Rattle.cq_vectors_stored.specs.Offsets.{offsets_in}
use Rattle.cq_hash_keys_values.specs.Coded.{AreNoted}
use Rattle.cq_hash_keys_values.specs.Met.{IsToldTo, with_new}
use Rattle.cq_hash_keys_values.specs.Values.{same_value}
use Rattle.cq_hash_keys_values.proofs.values.Values.number_coded.Given as goal

-- the values so far are met, told and noted
abbrev pub invariant-loop-place : goal.invariant-loop-place
invariant-loop-place l = record {
  within : l.place ≤ length (offsets_in l.codes);
  same : length l.numbers ≡ length (offsets_in l.codes);
  met : l.self ≡ with_new same_value l.fn.self (take l.place (entries_at l.entries (offsets_in l.codes) l.nulls));
  told : IsToldTo Null l.self (entries_at l.entries (offsets_in l.codes) l.nulls) l.place l.numbers;
  noted : AreNoted l.entries l.self l.slots;
  slots : length l.slots ≡ 1025;
}

abbrev pub decreases-loop-place : goal.decreases-loop-place
decreases-loop-place l = length (offsets_in l.codes) - l.place
