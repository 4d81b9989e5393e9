use Rattle.std.proofs.Common.{◌≤◌}
use Rattle.cq_vectors_stored.specs.Offsets.{offsets_in}
use Rattle.cq_hash_keys_values.specs.Coded.{IsNotedRun}
use Rattle.cq_hash_keys_values.proofs.coded.run_of_codes.Given as goal

-- the numbers so far are told
abbrev pub invariant-loop-place : goal.invariant-loop-place
invariant-loop-place l = record {
  from : l.from ≤ l.place;
  run : IsNotedRun l.slots (offsets_in l.codes) l.nulls l.from l.place l.fn.numbers l.numbers;
}
