-- Places of places.
use Rattle.std.proofs.Common.{◌≡◌, ℕ, ◌<◌, List, [], ◌∷◌, length, get_or, refl, sym, ap₂}
use Rattle.std.proofs.lemmas.List.{get_or-map}
use Rattle.cq_values.specs.Value.{Row}
use Rattle.cq_encodings_vectors.specs.Places.{AreBelow, places_at, rows_at}
use Rattle.cq_model_bags.proofs.Lists.{all-at}

-- they are below the same end
pub below-at : (end : ℕ) (all places : List ℕ) → AreBelow end all → AreBelow (length all) places → AreBelow end (places_at all places)
below-at end all [] below there = tt
below-at end all (place ∷ places) below there = (all-at (λ (p : ℕ). p < end) all place 0 there.0 below, below-at end all places below there.1)

-- and the rows there are the rows at places of those at places
pub rows-at : (rows : List Row) (all places : List ℕ) → AreBelow (length all) places → rows_at rows (places_at all places) ≡ rows_at (rows_at rows all) places
rows-at rows all [] there = refl
rows-at rows all (place ∷ places) there =
    ap₂ (λ (r : Row) rs. r ∷ rs) (sym (get_or-map (λ (p : ℕ). get_or rows p []) all place 0 [] there.0)) (rows-at rows all places there.1)
