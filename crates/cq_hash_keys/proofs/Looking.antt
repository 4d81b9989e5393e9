-- Keys with one column more, looked up.
use Rattle.std.proofs.Common.{◌≡◌, ℕ, true, false, List, [], ◌∷◌, ◌++◌, map, length, Option, None, refl, sym, ◌∙◌, ap, ap₂, arith, true≢false}
use Rattle.std.specs.List.{AllByRecursion, IsDistinct, list_any, zip}
use Rattle.std.proofs.lemmas.List.Folds.{list_any_at}
use Rattle.cq_values.specs.declared.value.Value.{Value}
use Rattle.cq_values.specs.declared.value.Value.TheVariants.{Null}
use Rattle.cq_values.specs.Keys.{same_row-refl, same_row-same}
use Rattle.cq_values.specs.Order.{same_row}
use Rattle.cq_values.specs.Value.{Row, column}
use Rattle.cq_model_bags.proofs.Totals.{by_test}
use Rattle.cq_hash_keys.specs.declared.stage.Stage.{Stage}
use Rattle.cq_hash_keys.specs.Grid.{same_pair}
use Rattle.cq_hash_keys.specs.Keys.{key_at, place_of, places_of}
use Rattle.cq_hash_keys.specs.Pairs.{place_of_both}
use Rattle.cq_hash_keys.specs.Stages.{FindsOn, IsStage, IsWithinBoth, behind, found_further, joined, longer}
use Rattle.cq_hash_keys_values.specs.Values.{place_in, same_value}
use Rattle.cq_hash_keys_values.proofs.Choices.{by-option}
use Rattle.cq_hash_keys_values.proofs.Growing.{place-named}
use Rattle.cq_hash_keys.proofs.Longer.{joined-agree, snoc-parts}
use Rattle.cq_hash_keys_values.proofs.Meeting.{none-any, none-passes, told}
use Rattle.cq_hash_keys_values.proofs.ValueKeys.{value-itself, value-same}

module _ (keys : List Row) (stage : Stage) (once : IsDistinct same_row keys) (is_stage : IsStage keys stage) (row : Row) (value : Value) where
  -- with a part that was never met no key is found
  apart-row : place_of keys row ≡ None → (p : ℕ × ℕ) → IsWithinBoth (length keys) (length stage.values) p → same_row (row ++ value ∷ []) (joined keys stage.values p) ≡ false
  apart-row none p within = by_test (same_row (row ++ value ∷ []) (joined keys stage.values p))
      (λ s.
      let parts = snoc-parts row (key_at keys p.0) value (column stage.values p.1) (same_row-same (row ++ value ∷ []) (joined keys stage.values p) s) in
      let there : list_any (same_row row) keys ≡ true = list_any_at (same_row row) keys p.0 [] within.0 (ap (same_row row) (sym parts.0) ∙ same_row-refl row) in
      absurd (true≢false (sym there ∙ none-any (same_row row) keys none)))
      (λ s. s)

  apart-value : place_in stage.values value ≡ None → (p : ℕ × ℕ) → IsWithinBoth (length keys) (length stage.values) p → same_row (row ++ value ∷ []) (joined keys stage.values p) ≡ false
  apart-value none p within = by_test (same_row (row ++ value ∷ []) (joined keys stage.values p))
      (λ s.
      let parts = snoc-parts row (key_at keys p.0) value (column stage.values p.1) (same_row-same (row ++ value ∷ []) (joined keys stage.values p) s) in
      let there : list_any (same_value value) stage.values ≡ true =
      list_any_at (same_value value) stage.values p.1 Null within.1 (ap (same_value value) (sym parts.1) ∙ value-itself value) in
      absurd (true≢false (sym there ∙ none-any (same_value value) stage.values none)))
      (λ s. s)

  all-apart : ((p : ℕ × ℕ) → IsWithinBoth (length keys) (length stage.values) p → same_row (row ++ value ∷ []) (joined keys stage.values p) ≡ false)
      → (pairs : List (ℕ × ℕ)) → AllByRecursion (IsWithinBoth (length keys) (length stage.values)) pairs
      → AllByRecursion (λ key. same_row (row ++ value ∷ []) key ≡ false) (map (joined keys stage.values) pairs)
  all-apart apart [] all = tt
  all-apart apart (p ∷ pairs) all = (apart p all.0, all-apart apart pairs all.1)

  none-there : ((p : ℕ × ℕ) → IsWithinBoth (length keys) (length stage.values) p → same_row (row ++ value ∷ []) (joined keys stage.values p) ≡ false)
      → place_of (longer keys stage) (row ++ value ∷ []) ≡ None
  none-there apart = none-passes (same_row (row ++ value ∷ [])) (longer keys stage) (all-apart apart stage.pairs is_stage.within)

  -- a key with a value behind is found by its number and the value's
  further : found_further stage (place_of keys row, value) ≡ place_of (longer keys stage) (row ++ value ∷ [])
  further = by-option (place_of keys row)
      (λ m first.
      by-option (place_in stage.values value)
      (λ n second.
      let here = told same_row [] same_row-same same_row-refl keys row m first in
      let there = told same_value Null value-same value-itself stage.values value n second in
      let pair : ℕ × ℕ = (m, n) in
      let is : joined keys stage.values pair ≡ row ++ value ∷ [] = ap₂ (λ (r : Row) (v : Value). r ++ v ∷ []) here.1 there.1 in
      ap₂ (λ a b. place_of_both stage.pairs (a, b)) first second
      ∙ sym (place-named same_pair same_row (joined keys stage.values) (IsWithinBoth (length keys) (length stage.values)) (joined-agree keys stage.values once is_stage.values)
      pair stage.pairs (here.0, there.0) is_stage.within)
      ∙ ap (place_of (longer keys stage)) is)
      (λ second. ap₂ (λ a b. place_of_both stage.pairs (a, b)) first second ∙ sym (none-there (apart-value second))))
      (λ first. ap (λ a. place_of_both stage.pairs (a, place_in stage.values value)) first ∙ sym (none-there (apart-row first)))

-- so are all
module _ (keys : List Row) (stage : Stage) (once : IsDistinct same_row keys) (is_stage : IsStage keys stage) where
  pub all-further : (rows : List Row) (values : List Value) → map (found_further stage) (zip (places_of keys rows) values) ≡ places_of (longer keys stage) (behind rows values)
  all-further [] values = refl
  all-further (r ∷ rows) [] = refl
  all-further (r ∷ rows) (v ∷ values) = ap₂ (λ (n : Option ℕ) (ns : List (Option ℕ)). n ∷ ns) (further keys stage once is_stage r v) (all-further rows values)

-- ---- stages one behind the other
pub finds-none : (stages : List Stage) (columns : List (List Value)) (numbers : List (Option ℕ)) → length stages ≡ 0 → length columns ≡ 0 → FindsOn stages columns numbers numbers
finds-none [] [] numbers a b = λ keys rows once are is. is
finds-none [] (c ∷ columns) numbers a b = absurd (omega (arith, b))
finds-none (s ∷ stages) columns numbers a b = absurd (omega (arith, a))

-- one stage, and then the others
pub finds-more : (stage : Stage) (rest : List Stage) (values : List Value) (columns : List (List Value)) (firsts numbers last : List (Option ℕ)) → numbers ≡ map (found_further stage) (zip firsts values)
    → FindsOn rest columns numbers last → FindsOn (stage ∷ rest) (values ∷ columns) firsts last
finds-more stage rest values columns firsts numbers last found others = λ keys rows once are is.
    others (longer keys stage) (behind rows values) are.0.once are.1
    (found ∙ ap (λ ns. map (found_further stage) (zip ns values)) is ∙ all-further keys stage once are.0 rows values)
