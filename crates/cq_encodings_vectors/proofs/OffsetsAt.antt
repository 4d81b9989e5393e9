-- Offsets at some places, which are nothing where NULL stands.
use Rattle.std.proofs.Common.{◌≡◌, ◌≤◌, ◌<◌, ℕ, Bool, List, length, get_or, map, subst, sym, ap, true, false, ◌∙◌, arith}
use Rattle.std.specs.List.{All}
use Rattle.std.specs.Simd.Lanes.{zip2}
use Rattle.std.proofs.lemmas.List.{get_or_past, length-map}
use Rattle.std.proofs.lemmas.List.Elements.{All-from_recursion, All-map, All-weaker}
use Rattle.cq_model.specs.Condition.{is_null}
use Rattle.cq_values.specs.declared.value.Value.{Value}
use Rattle.cq_encodings_plain.specs.Nulls.{NothingWhere}
use Rattle.cq_encodings_vectors.specs.Places.{AreBelow, flags_at, items_at, unless_set, values_at}
use Rattle.cq_encodings_vectors.proofs.AtPlaces.{at-clear, at-few, at-made, at-same, facts-read, kept-read}

module _ (values : List Value) (all : List ℕ) (places : List ℕ) {nulls : List Bool} {xs : List ℕ} {flags : List Bool}
    (null : nulls ≡ map is_null values) (clear : NothingWhere 0 (map is_null values) all) (copied : xs ≡ items_at all places 0) (shown : flags ≡ flags_at nulls places) where
  read : xs ≡ map (λ place. unless_set 0 (get_or all place 0) (get_or nulls place false)) places
  read = copied ∙ kept-read 0 nulls (λ place. get_or all place 0) (subst (λ (bs : List Bool). NothingWhere 0 bs all) (sym null) clear) places

  pub offsets-few : length places ≤ 1024 → length xs ≤ 1024
  offsets-few = at-few 0 (λ (n : ℕ). n) 0 all nulls places read shown

  pub offsets-same : length flags ≡ length xs
  offsets-same = at-same 0 (λ (n : ℕ). n) 0 all nulls places read shown

  pub offsets-clear : NothingWhere 0 flags xs
  offsets-clear = at-clear 0 (λ (n : ℕ). n) 0 all nulls places read shown

  -- what is made of them is what is made of all, at the places
  pub offsets-made : (make : ℕ → Bool → Value) → ((x y : ℕ) → make x true ≡ make y true) → length all ≡ length values → values ≡ zip2 make all (map is_null values)
      → AreBelow (length values) places → zip2 make xs flags ≡ values_at values places
  offsets-made make same long whole =
      at-made 0 (λ (n : ℕ). n) 0 all nulls places read shown make same
      (ap length null ∙ length-map values is_null ∙ sym long) values (whole ∙ ap (λ bs. zip2 make all bs) (sym null))

-- what holds of each offset holds of those at the places
pub known-at : (P : ℕ → Type 0) (all places : List ℕ) → All P all → AreBelow (length all) places → All P (items_at all places 0)
known-at P all places known below =
    All-map P (λ place. get_or all place 0) places
    (All-weaker (λ place. place < length all) (λ place. P (get_or all place 0)) (λ place there. known place 0 there) places (All-from_recursion (λ place. place < length all) places below))

-- and so what holds past their end too
pub facts-at : (P : ℕ → Type 0) (all places : List ℕ) → ((j : ℕ) → P (get_or all j 0)) → (j : ℕ) → P (get_or (items_at all places 0) j 0)
facts-at P all places facts = facts-read 0 P (subst P (get_or_past all (length all) 0 (omega arith)) (facts (length all))) (λ place. get_or all place 0) facts places
