use Rattle.std.proofs.Common.{◌+◌, ◌≤◌, ℕ, length, take}
use Rattle.std.specs.List.{AllByRecursion}
use Rattle.cq_engine_queue.proofs.noting.trim.Given as goal

-- there are so many changes that each view so far has passed, and not one more
abbrev pub invariant-loop-view : goal.invariant-loop-view
invariant-loop-view l = record {
  there : l.count ≤ length l.queue.changes;
  behind : AllByRecursion (λ v. l.queue.passed + l.count ≤ v.kept.state.epoch) (take l.view-index l.views);
  most :
      (n : ℕ) → n ≤ length l.queue.changes → AllByRecursion (λ v. l.queue.passed + n ≤ v.kept.state.epoch) (take l.view-index l.views)
      → n ≤ l.count;
}
