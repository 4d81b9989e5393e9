use Rattle.std.proofs.Common.{◌≤◌}
use Rattle.std.specs.List.{zip}
use Rattle.cq_hash_keys.specs.Grid.{pair_in}
use Rattle.cq_hash_keys_values.specs.Met.{IsRun}
use Rattle.cq_hash_keys.proofs.grid.Grid.run.Given as goal

-- the numbers so far are told
abbrev pub invariant-loop-place : goal.invariant-loop-place
invariant-loop-place l = record {
  from : l.from ≤ l.place;
  run : IsRun (0, 0) (pair_in l.self) (zip l.firsts l.seconds) l.from l.place l.fn.numbers l.numbers;
}
