use Rattle.std.proofs.Common.{◌≡◌, take, filter}
use Rattle.cq_model.specs.Meaning.{keeps}
use Rattle.cq_test_plain.proofs.filtering.filtered.Given as goal

-- the rows so far that pass
abbrev pub invariant-loop-row : goal.invariant-loop-row
invariant-loop-row l = l.passing.items ≡ filter (keeps l.condition) (take l.row-index l.rows)
