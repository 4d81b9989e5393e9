use Rattle.std.proofs.Common.{drop, length, replicate, take, ◌++◌, ◌+◌, ◌-◌, ◌≡◌}
use Rattle.cq_encodings.specs.Runs.{values_of_runs}
use Rattle.cq_encodings.proofs.runs.lend_from.Given as goal

-- those that are lent and some of those that remain are what is asked for
abbrev pub invariant-loop-run : goal.invariant-loop-run
invariant-loop-run l = record {
  done : l.to ++ take l.left (drop l.skip (values_of_runs (drop l.run-index l.runs))) ≡ take 1024 (drop l.start (values_of_runs l.runs));
  few : length l.to + l.left ≡ 1024;
}

-- the value was lent so often
abbrev pub invariant-loop : goal.invariant-loop
invariant-loop l = record {
  copied : l.to ≡ l.initial.to ++ replicate l.counter l.run.value;
  few : length l.to + (l.here - l.counter) + (l.left - l.here) ≡ 1024;
}
