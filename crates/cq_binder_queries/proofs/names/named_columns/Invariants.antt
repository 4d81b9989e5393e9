use Rattle.std.proofs.Common.{◌≡◌, ◌+◌, ◌++◌, drop}
use Rattle.cq_binder_rules.specs.Bound.{item_columns}
use Rattle.cq_binder_expressions.specs.Expressions.{scope_of}
use Rattle.cq_binder_queries.proofs.names.named_columns.Given as goal

-- the columns so far and those of the items that are left make up all
abbrev pub invariant-loop-i : goal.invariant-loop-i
invariant-loop-i l = l.columns ++ item_columns (scope_of l.scope) (l.i + 1) (drop l.i l.items) ≡ item_columns (scope_of l.scope) 1 l.items
