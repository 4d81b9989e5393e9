-- Places of the rows that a condition keeps.
use Rattle.std.specs.Prelude.{if◌then◌else◌, ℕ, suc, Bool, List, [], ◌∷◌, Option}
use Rattle.cq_values.specs.Value.{Row}
use Rattle.cq_model.specs.Expr.{Cond}
use Rattle.cq_model.specs.Meaning.{keeps}
use Rattle.cq_operators_scans.specs.Kept.{keeps_true}

-- the places, counted from here, of what passes a test
abbrev pub places_where : {X : Type 0} → ℕ → (X → Bool) → List X → List ℕ
places_where place test [] = []
places_where place test (x ∷ xs) = if test x then place ∷ places_where (suc place) test xs else places_where (suc place) test xs

-- the places of the rows that WHERE keeps
abbrev pub kept_at : Option Cond → List Row → List ℕ
kept_at condition rows = places_where 0 (keeps condition) rows

-- the places of the rows in which a condition is True
abbrev pub true_at : Cond → List Row → List ℕ
true_at c rows = places_where 0 (keeps_true c) rows
