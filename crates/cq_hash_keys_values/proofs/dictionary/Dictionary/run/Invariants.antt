use Rattle.std.proofs.Common.{◌≤◌, map}
use Rattle.cq_values.specs.declared.value.Value.TheVariants.{Null}
use Rattle.cq_hash_keys_values.specs.Dictionary.{number_in}
use Rattle.cq_hash_keys_values.specs.Met.{IsRun}
use Rattle.cq_hash_keys_values.specs.Whole.{whole_value}
use Rattle.cq_hash_keys_values.proofs.dictionary.Dictionary.run.Given as goal

-- the numbers so far are told
abbrev pub invariant-loop-place : goal.invariant-loop-place
invariant-loop-place l = record {
  from : l.from ≤ l.place;
  run : IsRun Null (number_in l.self) (map (whole_value l.fn.kind) l.values) l.from l.place l.fn.numbers l.numbers;
}
