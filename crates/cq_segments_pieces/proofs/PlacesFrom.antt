-- Places that stand further on, and what stands there.
use Rattle.std.proofs.Common.{◌≡◌, ℕ, zero, suc, ◌+◌, ◌-◌, ◌≤◌, List, [], ◌∷◌, drop, length, get_or, map, refl, sym, ap₂, ◌∙◌, arith}
use Rattle.std.specs.List.{range_with_len}
use Rattle.std.proofs.lemmas.List.{ext_get_or, get_or-drop, length-drop}
use Rattle.std.proofs.lemmas.List.FromFn.{get_or-map-range_with_len, length-map-range_with_len}
use Rattle.cq_encodings_vectors.specs.Places.{AreBelow, values_at}
use Rattle.cq_values.specs.declared.value.Value.{Value}
use Rattle.cq_values.specs.declared.value.Value.TheVariants.{Null}

-- the places from one on are below the end
pub range_below : (from count end : ℕ) → from + count ≤ end → AreBelow end (range_with_len from count)
range_below from zero end le = tt
range_below from (suc count) end le = (omega (arith, le), range_below (from + 1) count end (omega (arith, le)))

-- places further on are below an end further on
pub behind_below : (from end : ℕ) (places : List ℕ) → AreBelow (end - from) places → AreBelow end (map (λ place. from + place) places)
behind_below from end [] below = tt
behind_below from end (place ∷ places) below = (omega (arith, below.0), behind_below from end places below.1)

-- an earlier end is one
pub below_end : (end later : ℕ) (places : List ℕ) → end ≤ later → AreBelow end places → AreBelow later places
below_end end later [] le below = tt
below_end end later (place ∷ places) le below = (omega (arith, le, below.0), below_end end later places le below.1)

-- the values at all places from one on
pub values-from : (values : List Value) (from count : ℕ) → from + count ≡ length values → values_at values (range_with_len from count) ≡ drop from values
values-from values from count is =
    let made = length-map-range_with_len (λ place. get_or values place Null) from count in
    ext_get_or Null (values_at values (range_with_len from count)) (drop from values) (omega (arith, made, is, length-drop from values))
    (λ k below. get_or-map-range_with_len (λ place. get_or values place Null) from count k (from + k) Null (omega (arith, below, made)) (omega arith)
    ∙ sym (get_or-drop from values k Null))

-- the values at places further on are those of the values from there on
pub values-behind : (values : List Value) (from : ℕ) (places : List ℕ) → values_at values (map (λ place. from + place) places) ≡ values_at (drop from values) places
values-behind values from [] = refl
values-behind values from (place ∷ places) = ap₂ (λ v vs. v ∷ vs) (sym (get_or-drop from values place Null)) (values-behind values from places)
