use Rattle.std.proofs.Common.{◌≡◌, ◌++◌, take}
use Rattle.cq_views_columns.specs.Places.{behind, below}
use Rattle.cq_views_columns.proofs.places.add_places.Given as goal

-- the columns so far have their places
abbrev pub invariant-loop-column : goal.invariant-loop-column
invariant-loop-column l = l.places.items ≡ l.initial.places.items ++ behind l.before (below l.wide (take l.column-index l.columns))
