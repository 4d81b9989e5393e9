use Rattle.std.proofs.Common.{◌≡◌, ◌++◌}
use Rattle.std.specs.Iterator.Adapters.{zip_first, zip_second}
use Rattle.std.specs.Slice.Iter.{iter_rest}
use Rattle.cq_binder_queries.proofs.SourceColumns.{sized_columns}
use Rattle.cq_binder_queries.proofs.scopes.push_shown.Given as goal

-- the columns so far and those that are left make up all
abbrev pub invariant-loop-column : goal.invariant-loop-column
invariant-loop-column l =
    l.columns.items ++ sized_columns l.known (iter_rest (zip_first l.column-iterator)) (iter_rest (zip_second l.column-iterator))
    ≡ l.initial.columns.items ++ sized_columns l.known l.view.columns.now l.view.sizes.items
