use Rattle.std.proofs.Common.{◌<◌, take}
use Rattle.std.specs.List.{All}
use Rattle.cq_test_batches.proofs.tests.named.are_known.Given as goal

-- the numbers so far are known
abbrev pub invariant-loop-number : goal.invariant-loop-number
invariant-loop-number l = All (λ n. n < l.count) (take l.number-index l.numbers)
