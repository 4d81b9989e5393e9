use Rattle.std.proofs.Common.{◌≡◌, map, take}
use Rattle.cq_model_terms.specs.Naming.{place_by}
use Rattle.cq_model_terms.specs.Renamed.{renamed}
use Rattle.cq_views_columns.proofs.renamed.renamed_all.Given as goal

-- the items so far are renamed
abbrev pub invariant-loop-item : goal.invariant-loop-item
invariant-loop-item l = l.all ≡ map (renamed (place_by l.naming)) (take l.item-index l.items)
