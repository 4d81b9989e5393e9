-- Numbers at some places, which are 0 where NULL stands.
use Rattle.std.proofs.Common.{◌≡◌, ◌≤◌, ◌∙◌, Bool, List, ℕ, ℤ, ap, arith, get_or, length, map, pos, refl, subst, sym, FitsSigned, w64, false}
use Rattle.std.specs.Simd.Lanes.{zip2}
use Rattle.std.proofs.lemmas.List.{length-map}
use Rattle.cq_model.specs.Condition.{is_null}
use Rattle.cq_values.specs.Order.{number}
use Rattle.cq_values.specs.declared.value.Value.{Value}
use Rattle.cq_vectors_stored.specs.Columns.{ZeroWhere, number_unless}
use Rattle.cq_vectors.proofs.Gathering.{zero_where}
use Rattle.cq_encodings_vectors.specs.Places.{AreBelow, flags_at, unless_set, values_at}
use Rattle.cq_encodings_vectors.proofs.AtPlaces.{at-clear, at-facts, at-few, at-made, at-same, kept-read}

module _ (values : List Value) (places : List ℕ) {all : List ℤ} {nulls : List Bool} {xs : List ℤ} {flags : List Bool}
    (numbers : all ≡ map number values) (null : nulls ≡ map is_null values) (copied : xs ≡ map (λ place. get_or all place (pos 0)) places) (shown : flags ≡ flags_at nulls places) where
  zeros : ZeroWhere nulls all
  zeros = subst (λ (bs : List Bool). ZeroWhere bs all) (sym null) (subst (ZeroWhere (map is_null values)) (sym numbers) (zero_where values))

  read : xs ≡ map (λ place. unless_set (pos 0) (get_or all place (pos 0)) (get_or nulls place false)) places
  read = copied ∙ kept-read (pos 0) nulls (λ place. get_or all place (pos 0)) zeros places

  pub numbers-few : length places ≤ 1024 → length xs ≤ 1024
  numbers-few = at-few (pos 0) (λ (n : ℤ). n) (pos 0) all nulls places read shown

  pub numbers-same : length flags ≡ length xs
  numbers-same = at-same (pos 0) (λ (n : ℤ). n) (pos 0) all nulls places read shown

  pub numbers-zero : ZeroWhere flags xs
  numbers-zero = at-clear (pos 0) (λ (n : ℤ). n) (pos 0) all nulls places read shown

  pub numbers-fit : ((j : ℕ) → FitsSigned w64 (get_or all j (pos 0))) → (j : ℕ) → FitsSigned w64 (get_or xs j (pos 0))
  numbers-fit = at-facts (pos 0) (λ (n : ℤ). n) (pos 0) all nulls places read shown (FitsSigned w64) (record { sfits = omega arith })

  long : length nulls ≡ length all
  long = ap length null ∙ length-map values is_null ∙ sym (ap length numbers ∙ length-map values number)

  -- they make the values at the places
  pub numbers-made : values ≡ zip2 number_unless all (map is_null values) → AreBelow (length values) places → zip2 number_unless xs flags ≡ values_at values places
  numbers-made whole =
      at-made (pos 0) (λ (n : ℤ). n) (pos 0) all nulls places read shown
      number_unless (λ x y. refl) long values (whole ∙ ap (λ bs. zip2 number_unless all bs) (sym null))
