use Rattle.std.proofs.Common.{◌≡◌, []}
use Rattle.cq_writestore.proofs.tests.filled.Given as goal

-- each row that is begun has ended, and has one value
abbrev pub invariant-loop-place : goal.invariant-loop-place
invariant-loop-place l = (l.filling.begun ≡ []) × (l.filling.width ≡ 1)
