use Rattle.std.proofs.Common.{◌≡◌, length, map, take}
use Rattle.cq_hash_keys_values.specs.Dictionary.{number_in}
use Rattle.cq_hash_keys_values.specs.Whole.{whole_value}
use Rattle.cq_hash_keys_values.proofs.dictionary.Dictionary.find.Given as goal

-- the numbers so far are looked up
abbrev pub invariant-loop-place : goal.invariant-loop-place
invariant-loop-place l = record {
  same : length l.found ≡ length l.values;
  found : take l.place l.found ≡ map (number_in l.self) (take l.place (map (whole_value l.kind) l.values));
}
