use Rattle.std.proofs.Common.{◌≡◌, ◌++◌, map, take}
use Rattle.cq_binder_rules.specs.Scopes.{scope_column}
use Rattle.cq_model.specs.Sizes.{stored_size}
use Rattle.cq_binder_queries.proofs.scopes.push_stored.Given as goal

-- the columns so far are those before and those of the table so far
abbrev pub invariant-loop-column : goal.invariant-loop-column
invariant-loop-column l =
    l.columns.items ≡ l.initial.columns.items ++ map (λ c. scope_column l.known (c, stored_size)) (take l.column-index l.table.columns.now)
