use Rattle.std.proofs.Common.{◌≡◌, take}
use Rattle.cq_model_bags.specs.Bag.{firsts}
use Rattle.cq_test_plain.proofs.repeats.firsts.Given as goal

-- the rows so far, each once
abbrev pub invariant-loop-row : goal.invariant-loop-row
invariant-loop-row l = l.found.items ≡ firsts (take l.row-index l.rows)
