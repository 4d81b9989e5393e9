use Rattle.std.proofs.Common.{◌≤◌, ◌<◌, ◌^◌, ℕ, get_or}
use Rattle.cq_values.specs.declared.value.Value.TheVariants.{Null}
use Rattle.cq_model.specs.Width.{value_size}
use Rattle.cq_test_batches.proofs.tests.arithmetic.are_small.Given as goal

-- each number so far is small
abbrev pub invariant-loop-place : goal.invariant-loop-place
invariant-loop-place l = (k : ℕ) → k < l.place → value_size (get_or l.numbers k Null) ≤ 2 ^ 63
