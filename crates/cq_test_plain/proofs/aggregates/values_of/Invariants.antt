use Rattle.std.proofs.Common.{◌≡◌, map, take, not, filter}
use Rattle.cq_model.specs.Condition.{is_null}
use Rattle.cq_model.specs.Eval.{eval}
use Rattle.cq_test_plain.proofs.aggregates.values_of.Given as goal

-- the values of the rows so far
abbrev pub invariant-loop-row : goal.invariant-loop-row
invariant-loop-row l = l.values.items ≡ filter (λ v. not (is_null v)) (map (eval l.expr) (take l.row-index l.rows))
