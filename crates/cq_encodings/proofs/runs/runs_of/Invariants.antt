use Rattle.std.proofs.Common.{[], length, map, replicate, take, ◌++◌, ◌<◌, ◌∷◌, ◌≡◌, ◌≤◌}
use Rattle.cq_values.specs.Lent.{owned}
use Rattle.cq_encodings.specs.Runs.{AreRuns, value_in, values_of_runs}
use Rattle.cq_encodings.proofs.runs.runs_of.Given as goal

-- the runs and the one that goes on are the values so far
abbrev pub invariant-loop-i : goal.invariant-loop-i
invariant-loop-i l = record {
  done : values_of_runs l.runs.items ++ replicate l.count (value_in l.values l.first) ≡ take l.i (map owned l.values);
  runs : AreRuns (l.runs.items ++ record { value = value_in l.values l.first; count = l.count } ∷ []);
  few : l.count ≤ l.i;
  some : 0 < l.count;
  within : l.first < length l.values;
}
