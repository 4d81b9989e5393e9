use Rattle.std.proofs.Common.{◌≡◌, ◌≤◌, ◌-◌, length, take}
use Rattle.std.specs.List.{zip}
use Rattle.cq_hash_keys.specs.Grid.{same_pair}
use Rattle.cq_hash_keys_values.specs.Met.{IsToldTo, with_new}
use Rattle.cq_hash_keys.proofs.pairs.Pairs.number_all.Given as goal

-- the pairs so far are met and told
abbrev pub invariant-loop-place : goal.invariant-loop-place
invariant-loop-place l = record {
  within : l.place ≤ length l.firsts;
  same : length l.numbers ≡ length l.firsts;
  met : l.self ≡ with_new same_pair l.fn.self (take l.place (zip l.firsts l.seconds));
  told : IsToldTo (0, 0) l.self (zip l.firsts l.seconds) l.place l.numbers;
}

abbrev pub decreases-loop-place : goal.decreases-loop-place
decreases-loop-place l = length l.firsts - l.place
