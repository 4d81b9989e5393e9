use Rattle.std.proofs.Common.{◌≡◌, take}
use Rattle.std.specs.Prelude.{◌*◌, ◌^◌, ◌≤◌, nat_abs}
use Rattle.cq_test_plain.proofs.aggregates.sum.Given as goal
use Rattle.cq_model.specs.Totals.{total_of}

-- the total so far, and how large it can be
abbrev pub invariant-loop-value : goal.invariant-loop-value
invariant-loop-value l = (l.total ≡ total_of (take l.value-index l.values)) × (nat_abs l.total ≤ l.value-index * 2 ^ 127)
