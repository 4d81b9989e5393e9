use Rattle.std.proofs.Common.{◌≡◌, ◌≤◌, ◌-◌, length, map, take}
use Rattle.cq_values.specs.declared.value.Value.TheVariants.{Null}
use Rattle.cq_hash_keys_values.specs.Met.{IsToldTo, with_new}
use Rattle.cq_hash_keys_values.specs.Values.{same_value}
use Rattle.cq_hash_keys_values.specs.Whole.{whole_value}
use Rattle.cq_hash_keys_values.proofs.values.Values.number_whole.Given as goal

-- the numbers so far are met and told
abbrev pub invariant-loop-place : goal.invariant-loop-place
invariant-loop-place l = record {
  within : l.place ≤ length l.values;
  same : length l.numbers ≡ length l.values;
  met : l.self ≡ with_new same_value l.fn.self (take l.place (map (whole_value l.kind) l.values));
  told : IsToldTo Null l.self (map (whole_value l.kind) l.values) l.place l.numbers;
}

abbrev pub decreases-loop-place : goal.decreases-loop-place
decreases-loop-place l = length l.values - l.place
