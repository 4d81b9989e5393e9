-- What is made of items at some places, with nothing where NULL stands.
use Rattle.std.proofs.Common.{◌≡◌, true, false, ℕ, zero, suc, ◌≤◌, Bool, List, [], ◌∷◌, length, get_or, drop, map, replicate, refl, sym, ap, ap₂, subst, ◌∙◌, arith}
use Rattle.std.specs.Simd.Lanes.{zip2}
use Rattle.std.proofs.lemmas.List.{get_or-drop, get_or-replicate, get_or-take, length-map, length-replicate}
use Rattle.std.proofs.lemmas.Simd.{get_or-zip2, length-zip2}
use Rattle.cq_values.specs.declared.value.Value.{Value}
use Rattle.cq_values.specs.declared.value.Value.TheVariants.{Null}
use Rattle.cq_vectors_stored.specs.LentColumns.{part_of}
use Rattle.cq_encodings_plain.specs.Nulls.{NothingWhere}
use Rattle.cq_encodings_vectors.specs.Places.{AreBelow, NoneIsSet, flags_at, run_at_places, unless_set, values_at}

-- where no flag is set none is set at the places
pub clear-at : (flags : List Bool) (places : List ℕ) → ((place : ℕ) → get_or flags place false ≡ false) → replicate (length places) false ≡ flags_at flags places
clear-at flags [] clear = refl
clear-at flags (place ∷ places) clear = ap₂ (λ b bs. b ∷ bs) (sym (clear place)) (clear-at flags places clear)

-- of one value it is that value
pub constant-at : (value : Value) (len : ℕ) (places : List ℕ) → AreBelow (length (replicate len value)) places → replicate (length places) value ≡ values_at (replicate len value) places
constant-at value len [] below = refl
constant-at value len (place ∷ places) below =
    ap₂ (λ v vs. v ∷ vs) (sym (get_or-replicate len place value Null (omega (arith, below.0, length-replicate len value)))) (constant-at value len places below.1)

module _ {B : Type 0} (nothing : B) where
  fact-unless : (P : B → Type 0) → P nothing → (x : B) (b : Bool) → P x → P (unless_set nothing x b)
  fact-unless P none x true fact = none
  fact-unless P none x false fact = fact

  -- of places where nothing is read where the flag is set
  clear-read : (nulls : List Bool) (item : ℕ → B) (places : List ℕ) → NothingWhere nothing (flags_at nulls places) (map (λ place. unless_set nothing (item place) (get_or nulls place false)) places)
  clear-read nulls item [] j set = refl
  clear-read nulls item (place ∷ places) zero set = ap (unless_set nothing (item place)) set
  clear-read nulls item (place ∷ places) (suc j) set = clear-read nulls item places j set

  kept : (x : B) (b : Bool) → (b ≡ true → x ≡ nothing) → x ≡ unless_set nothing x b
  kept x true none = none refl
  kept x false none = refl

  -- where there is nothing under each flag that is set, items are read as they stand
  pub kept-read : (nulls : List Bool) (item : ℕ → B) → ((place : ℕ) → get_or nulls place false ≡ true → item place ≡ nothing) → (places : List ℕ)
      → map item places ≡ map (λ place. unless_set nothing (item place) (get_or nulls place false)) places
  kept-read nulls item none [] = refl
  kept-read nulls item none (place ∷ places) = ap₂ (λ x xs. x ∷ xs) (kept (item place) (get_or nulls place false) (none place)) (kept-read nulls item none places)

  -- and so where none is set
  pub clear-kept : (nulls : List Bool) (item : ℕ → B) → ((place : ℕ) → get_or nulls place false ≡ false) → (places : List ℕ)
      → map item places ≡ map (λ place. unless_set nothing (item place) (get_or nulls place false)) places
  clear-kept nulls item clear = kept-read nulls item (λ place set. absurd (cc (sym (clear place) ∙ set)))

  -- also where none is set at the places
  pub clear-kept-at : (nulls : List Bool) (item : ℕ → B) (places : List ℕ) → NoneIsSet (flags_at nulls places)
      → map item places ≡ map (λ place. unless_set nothing (item place) (get_or nulls place false)) places
  clear-kept-at nulls item [] clear = refl
  clear-kept-at nulls item (place ∷ places) clear =
      ap₂ (λ x xs. x ∷ xs) (kept (item place) (get_or nulls place false) (λ set. absurd (cc (sym (clear 0) ∙ set)))) (clear-kept-at nulls item places (λ j. clear (suc j)))

  -- what holds of what is read anywhere holds at the places
  pub facts-read : (P : B → Type 0) → P nothing → (read : ℕ → B) → ((place : ℕ) → P (read place)) → (places : List ℕ) (j : ℕ) → P (get_or (map read places) j nothing)
  facts-read P none read facts [] j = none
  facts-read P none read facts (place ∷ places) zero = facts place
  facts-read P none read facts (place ∷ places) (suc j) = facts-read P none read facts places j

module _ {A B : Type 0} (make : B → Bool → Value) (nothing : B) (null : (x y : B) → make x true ≡ make y true) (h : A → B) (d : A) (all : List A) (nulls : List Bool) (long : length nulls ≡ length all) where
  unset : (x : B) (b : Bool) → make (unless_set nothing x b) b ≡ make x b
  unset x true = null nothing x
  unset x false = refl

  made-read : (places : List ℕ) → AreBelow (length all) places
      → zip2 make (map (λ place. unless_set nothing (h (get_or all place d)) (get_or nulls place false)) places) (flags_at nulls places) ≡ values_at (zip2 (λ x b. make (h x) b) all nulls) places
  made-read [] below = refl
  made-read (place ∷ places) below =
      ap₂ (λ v vs. v ∷ vs)
      (unset (h (get_or all place d)) (get_or nulls place false)
      ∙ sym (get_or-zip2 (λ x b. make (h x) b) all nulls place d false Null below.0 (omega (arith, below.0, long))))
      (made-read places below.1)

module _ {A B : Type 0} (nothing : B) (h : A → B) (d : A) (all : List A) (nulls : List Bool) (places : List ℕ) {xs : List B} {flags : List Bool}
    (is : xs ≡ map (λ place. unless_set nothing (h (get_or all place d)) (get_or nulls place false)) places) (shown : flags ≡ flags_at nulls places) where
  pub at-few : length places ≤ 1024 → length xs ≤ 1024
  at-few few = omega (arith, few, ap length is ∙ length-map places (λ place. unless_set nothing (h (get_or all place d)) (get_or nulls place false)))

  pub at-same : length flags ≡ length xs
  at-same =
      ap length shown ∙ length-map places (λ place. get_or nulls place false)
      ∙ sym (ap length is ∙ length-map places (λ place. unless_set nothing (h (get_or all place d)) (get_or nulls place false)))

  -- nothing stands where the flag is set
  pub at-clear : NothingWhere nothing flags xs
  at-clear =
      subst (λ (bs : List Bool). NothingWhere nothing bs xs) (sym shown)
      (subst (NothingWhere nothing (flags_at nulls places)) (sym is) (clear-read nothing nulls (λ place. h (get_or all place d)) places))

  -- what holds of each item and of nothing holds at the places
  pub at-facts : (P : B → Type 0) → P nothing → ((j : ℕ) → P (h (get_or all j d))) → (j : ℕ) → P (get_or xs j nothing)
  at-facts P none facts =
      subst (λ (ys : List B). (j : ℕ) → P (get_or ys j nothing)) (sym is)
      (facts-read nothing P none (λ place. unless_set nothing (h (get_or all place d)) (get_or nulls place false))
      (λ place. fact-unless nothing P none (h (get_or all place d)) (get_or nulls place false) (facts place)) places)

  -- they make the values at the places
  pub at-made : (make : B → Bool → Value) → ((x y : B) → make x true ≡ make y true) → length nulls ≡ length all → (values : List Value) → values ≡ zip2 (λ x b. make (h x) b) all nulls
      → AreBelow (length values) places → zip2 make xs flags ≡ values_at values places
  at-made make null long values whole below =
      let many : length values ≡ length all = ap length whole ∙ length-zip2 (λ x b. make (h x) b) all nulls (sym long) in
      ap₂ (zip2 make) is shown
      ∙ made-read make nothing null h d all nulls long places (subst (λ (n : ℕ). AreBelow n places) many below)
      ∙ ap (λ vs. values_at vs places) (sym whole)

-- the texts of a part of a run
pub run-part : (texts : List (List ℕ)) (start : ℕ) (nulls : List Bool) (places : List ℕ) → AreBelow (length nulls) places
    → run_at_places texts start nulls places ≡ map (λ place. unless_set [] (get_or (part_of texts start (length nulls)) place []) (get_or nulls place false)) places
run-part texts start nulls [] below = refl
run-part texts start nulls (place ∷ places) below =
    ap₂ (λ x xs. x ∷ xs)
    (ap (λ text. unless_set [] text (get_or nulls place false)) (sym (get_or-take (length nulls) (drop start texts) place [] below.0 ∙ get_or-drop start texts place [])))
    (run-part texts start nulls places below.1)
