use Rattle.std.proofs.Common.{◌≡◌, map}
use Rattle.cq_deltas.specs.Kept.{seen}
use Rattle.cq_deltas.proofs.group.settle_all.Given as goal

-- what is kept shows the same
abbrev pub invariant-loop-place : goal.invariant-loop-place
invariant-loop-place l = map seen l.kept ≡ map seen l.fn.kept
