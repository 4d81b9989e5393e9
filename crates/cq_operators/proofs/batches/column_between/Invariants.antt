use Rattle.std.proofs.Common.{◌≡◌, ◌+◌, ◌-◌, ◌≤◌, map}
use Rattle.std.specs.Prelude.{vec_capacity, vec_len}
use Rattle.cq_values.specs.Lent.{owned}
use Rattle.cq_operators.specs.Batches.{between, column_in}
use Rattle.cq_operators.proofs.batches.column_between.Given as goal

-- the values of the rows so far, with room for those of the others
abbrev pub invariant-loop-place : goal.invariant-loop-place
invariant-loop-place l = record {
  values : map owned l.values.items ≡ column_in l.column (between l.start l.place l.list);
  room : vec_len l.values + (l.end - l.place) ≤ vec_capacity l.values;
}
