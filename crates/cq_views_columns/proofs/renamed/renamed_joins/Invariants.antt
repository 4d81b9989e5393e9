use Rattle.std.proofs.Common.{◌≡◌, map, take}
use Rattle.cq_views_columns.specs.Narrow.{columns_at, renamed_join}
use Rattle.cq_model_terms.specs.Places.{place_in}
use Rattle.cq_views_columns.proofs.renamed.renamed_joins.Given as goal

-- the joins so far are renamed
abbrev pub invariant-loop-join : goal.invariant-loop-join
invariant-loop-join l = l.all ≡ map (renamed_join (place_in l.places) (columns_at l.columns)) (take l.join-index l.joins)
