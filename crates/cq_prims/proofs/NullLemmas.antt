-- Where one of two values is NULL.
use Rattle.std.proofs.Common.{◌≡◌, ℕ, Bool, true, false, not, List, [], ◌∷◌, map, length, replicate, refl, sym, ap, ap₂, ◌∙◌}
use Rattle.std.specs.Bool.{OnTrue}
use Rattle.std.proofs.lemmas.List.{length-map}
use Rattle.std.proofs.lemmas.Simd.{length-replicate, length-zip2}
use lib.Lanes.{zip2}
use Rattle.cq_vectors_masks.specs.Plane.{either}
use Rattle.cq_model.specs.Condition.{is_null}
use Rattle.cq_values.specs.declared.value.Value.{Value}
use Rattle.cq_prims_lanes.proofs.Places.{map-replicate}

-- there are as many flags as values
pub length_either : (a b : List Value) → length a ≡ length b → length (zip2 either (map is_null a) (map is_null b)) ≡ length a
length_either a b same = length-zip2 either (map is_null a) (map is_null b) (length-map a is_null ∙ same ∙ sym (length-map b is_null)) ∙ length-map a is_null

either_false : (x : Bool) → either x false ≡ x
either_false true = refl
either_false false = refl

either_clear : (xs : List Bool) → zip2 either xs (replicate (length xs) false) ≡ xs
either_clear [] = refl
either_clear (x ∷ xs) = ap₂ (λ y l. y ∷ l) (either_false x) (either_clear xs)

clear_either : (xs : List Bool) → zip2 either (replicate (length xs) false) xs ≡ xs
clear_either [] = refl
clear_either (x ∷ xs) = ap (λ l. x ∷ l) (clear_either xs)

module _ (a b : List Value) (same : length a ≡ length b) where
  -- the NULLs are the left ones where there is none on the right
  pub left_nulls : map is_null b ≡ replicate (length b) false → map is_null a ≡ zip2 either (map is_null a) (map is_null b)
  left_nulls none =
      sym (either_clear (map is_null a))
      ∙ ap (λ (n : ℕ). zip2 either (map is_null a) (replicate n false)) (length-map a is_null ∙ same)
      ∙ ap (zip2 either (map is_null a)) (sym none)

  -- the NULLs are the right ones where there is none on the left
  pub right_nulls : map is_null a ≡ replicate (length a) false → map is_null b ≡ zip2 either (map is_null a) (map is_null b)
  right_nulls none =
      sym (clear_either (map is_null b))
      ∙ ap (λ (n : ℕ). zip2 either (replicate n false) (map is_null b)) (length-map b is_null ∙ sym same)
      ∙ ap (λ l. zip2 either l (map is_null b)) (sym none)

-- one value that is not NULL, in each place
pub known_constant : (null : Bool) (v : Value) (n : ℕ) → null ≡ is_null v → OnTrue (not null) (map is_null (replicate n v) ≡ replicate (length (replicate n v)) false)
known_constant true v n is = tt
known_constant false v n is = map-replicate is_null n v ∙ ap (replicate n) (sym is) ∙ ap (λ (m : ℕ). replicate m false) (sym (length-replicate n v))
