use Rattle.std.proofs.Common.{◌≡◌, ◌+◌, ◌++◌}
use Rattle.std.specs.Iterator.Adapters.{zip_first, zip_second}
use Rattle.std.specs.List.{sum}
use Rattle.std.specs.Slice.Iter.{iter_rest}
use Rattle.cq_views_columns.specs.Narrow.{columns_at}
use Rattle.cq_views_columns.specs.Places.{places_from}
use Rattle.cq_views_columns.proofs.places.places_of.Given as goal

-- the places so far and those of the sources that are left make up all
abbrev pub invariant-loop-source : goal.invariant-loop-source
invariant-loop-source l =
    (l.before + sum (iter_rest (zip_second l.source-iterator)) ≡ sum l.widths)
    × (l.places.items ++ places_from (columns_at l.columns) l.before (iter_rest (zip_first l.source-iterator)) (iter_rest (zip_second l.source-iterator))
    ≡ places_from (columns_at l.columns) 0 l.sources l.widths)
