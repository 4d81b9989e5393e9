use Rattle.std.proofs.Common.{◌≡◌, take}
use Rattle.cq_views_columns.specs.Narrow.{renamed_on}
use Rattle.cq_model_terms.specs.Places.{place_in}
use Rattle.cq_views_columns.proofs.renamed.renamed_on.Given as goal

-- the equalities so far are renamed
abbrev pub invariant-loop-equality : goal.invariant-loop-equality
invariant-loop-equality l = l.all ≡ renamed_on (place_in l.places) l.own (take l.equality-index l.on)
