use Rattle.std.proofs.Common.{◌≡◌, map, take}
use Rattle.cq_model.specs.Meaning.{items_of}
use Rattle.cq_test_plain.proofs.answering.shown.Given as goal

-- the results of the rows so far
abbrev pub invariant-loop-row : goal.invariant-loop-row
invariant-loop-row l = l.results.items ≡ map (items_of l.items) (take l.row-index l.rows)
