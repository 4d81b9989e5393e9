use Rattle.std.proofs.Common.{◌≡◌, ◌+◌, ◌++◌, drop}
use Rattle.cq_binder_rules.specs.Headers.{header}
use Rattle.cq_binder_queries.proofs.select.header.Given as goal

-- the names so far and those of the items that are left make up all
abbrev pub invariant-loop-i : goal.invariant-loop-i
invariant-loop-i l = l.names ++ header (l.i + 1) (drop l.i l.items) ≡ header 1 l.items
