use Rattle.std.proofs.Common.{◌≤◌, ◌-◌, length}
use Rattle.std.specs.List.{AllByRecursion}
use Rattle.cq_hash_keys.specs.Stages.{IsFresh}
use Rattle.cq_hash_keys.proofs.stages.new_stages.Given as goal

-- the stages so far
abbrev pub invariant-loop-alloc : goal.invariant-loop-alloc
invariant-loop-alloc l = (length l.stages.items ≤ l.count) × AllByRecursion IsFresh l.stages.items

abbrev pub decreases-loop-alloc : goal.decreases-loop-alloc
decreases-loop-alloc l = l.count - length l.stages.items
