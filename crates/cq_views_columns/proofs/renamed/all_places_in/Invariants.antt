use Rattle.std.proofs.Common.{◌≡◌, map, take}
use Rattle.cq_model_terms.specs.Places.{place_in}
use Rattle.cq_views_columns.proofs.renamed.all_places_in.Given as goal

-- the columns so far have their places
abbrev pub invariant-loop-column : goal.invariant-loop-column
invariant-loop-column l = l.all ≡ map (place_in l.places) (take l.column-index l.columns)
