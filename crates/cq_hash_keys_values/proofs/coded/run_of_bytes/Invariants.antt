use Rattle.std.proofs.Common.{◌+◌, ◌≤◌, map, ℕ}
use Rattle.cq_hash_keys_values.specs.Coded.{noted_in}
use Rattle.cq_hash_keys_values.specs.Met.{IsRun}
use Rattle.cq_hash_keys_values.proofs.coded.run_of_bytes.Given as goal

-- the numbers so far are told
abbrev pub invariant-loop-place : goal.invariant-loop-place
invariant-loop-place l = record {
  from : l.from ≤ l.place;
  run : IsRun 0 (noted_in l.slots) (map (λ (code : ℕ). code + 1) l.codes) l.from l.place l.fn.numbers l.numbers;
}
