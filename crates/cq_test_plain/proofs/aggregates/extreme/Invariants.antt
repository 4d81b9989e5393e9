use Rattle.std.proofs.Common.{take}
use Rattle.cq_test_plain.proofs.Bests.{IsAsNear, IsBest}
use Rattle.cq_test_plain.proofs.aggregates.extreme.Given as goal

-- the value is one of all, and none so far is better
abbrev pub invariant-loop-value : goal.invariant-loop-value
invariant-loop-value l = IsBest (IsAsNear l.end) l.best l.values (take l.value-index l.values)
