use Rattle.std.proofs.Common.{◌≡◌, map, take}
use Rattle.cq_model_terms.specs.Places.{place_in}
use Rattle.cq_views_columns.specs.Renamed.{renamed_aggregate}
use Rattle.cq_views_columns.proofs.renamed.renamed_aggregates.Given as goal

-- the aggregates so far are renamed
abbrev pub invariant-loop-aggregate : goal.invariant-loop-aggregate
invariant-loop-aggregate l = l.all ≡ map (renamed_aggregate (place_in l.places)) (take l.aggregate-index l.aggregates)
