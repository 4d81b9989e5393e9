use Rattle.std.proofs.Common.{◌≡◌, take}
use Rattle.cq_writestore.specs.Writes.{with_flags_behind}
use Rattle.cq_writestore.proofs.store.WriteStore.mark_behind.Given as goal

-- the rows behind the others have the first marks
abbrev pub invariant-loop-place : goal.invariant-loop-place
invariant-loop-place l = l.self.rows ≡ with_flags_behind l.held (take l.place l.flags) l.initial.self.rows
