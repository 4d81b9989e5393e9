use Rattle.std.proofs.Common.{◌≡◌, ◌≤◌, length, take}
use Rattle.cq_test_plain.specs.OfGroups.{first_values}
use Rattle.cq_test_plain.proofs.aggregates.count_known.Given as goal

-- those of the rows so far, which are no more than these
abbrev pub invariant-loop-row : goal.invariant-loop-row
invariant-loop-row l = (l.count ≡ length (first_values (take l.row-index l.rows))) × (l.count ≤ l.row-index)
