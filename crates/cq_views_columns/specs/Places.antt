-- Columns that are kept of rows, and where they stand in the narrower rows.
use Rattle.std.specs.Prelude.{◌≡◌, ℕ, ◌+◌, List, [], ◌∷◌, ◌++◌, filter, map, nat_lt}
use Rattle.std.specs.Global.{Vec}
use Rattle.cq_model.specs.declared.query.Source.{Source}

-- the places of a source's columns, where so many stand before it
abbrev pub behind : ℕ → List ℕ → List ℕ
behind before columns = map (λ c. before + c) columns

-- those columns that a row of this width has
abbrev pub below : ℕ → List ℕ → List ℕ
below wide columns = filter (λ c. nat_lt c wide) columns

-- behind the places stand those of a source's columns, where so many stand before it
abbrev pub PutsPlaces : ℕ → ℕ → List ℕ → Vec ℕ → Vec ℕ → Type 0
PutsPlaces before wide columns old new = new.items ≡ old.items ++ behind before (below wide columns)

-- the places of the columns of several sources of these widths, one behind the other
abbrev pub places_from : (Source → List ℕ) → ℕ → List Source → List ℕ → List ℕ
places_from columns before (s ∷ sources) (wide ∷ widths) =
    behind before (below wide (columns s)) ++ places_from columns (before + wide) sources widths
places_from columns before sources widths = []
