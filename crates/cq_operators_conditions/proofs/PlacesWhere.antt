-- The places of the rows in which a condition is True.
use Rattle.std.proofs.Common.{◌≡◌, ℕ, ◌+◌, List, [], ◌∷◌, ◌++◌, add-one, map, length, refl, ◌∙◌, ap, ap₂}
use Rattle.std.specs.Prelude.{None}
use Rattle.std.specs.List.{range_with_len}
use Rattle.std.proofs.lemmas.List.{length-map}
use Rattle.cq_values.specs.Truth.{is_true}
use Rattle.cq_values.specs.Value.{Row}
use Rattle.cq_values.specs.declared.truth.Truth.{Truth}
use Rattle.cq_vectors_masks.specs.Selection.{where_true}
use Rattle.cq_model_bags.proofs.Totals.{by_test}
use Rattle.cq_model.specs.Meaning.{keeps}
use Rattle.cq_operators_conditions.specs.Kept.{places_where}
use Rattle.cq_operators_scans.proofs.RowBehind.{next-is, next-long, told-here}

-- behind some rows, the places where a test is True are those of the rows that pass it
where-from : (test : Row → Truth) (whole before after : List Row) → whole ≡ before ++ after → (n : ℕ) → length before ≡ n
    → where_true (map test whole) (range_with_len n (length after)) ≡ places_where n (λ row. is_true (test row)) after
where-from test whole before [] is n long = refl
where-from test whole before (row ∷ after) is n long =
    let told = told-here whole before row after is n long test in
    let rest = where-from test whole (before ++ row ∷ []) after (next-is whole before row after is) (n + 1) (next-long whole before row after is n long)
    ∙ ap (λ (i : ℕ). places_where i (λ (row : Row). is_true (test row)) after) (add-one n) in
    by_test (is_true (test row))
    (λ k. rw (told, k) (ap (λ (places : List ℕ). n ∷ places) rest))
    (λ k. rw (told, k) rest)

-- the places where a condition is True are those of the rows that it keeps
pub where-true : (test : Row → Truth) (rows : List Row) (truths : List Truth) → truths ≡ map test rows → where_true truths (range_with_len 0 (length truths)) ≡ places_where 0 (λ row. is_true (test row)) rows
where-true test rows truths are =
    ap₂ (λ (ts : List Truth) (n : ℕ). where_true ts (range_with_len 0 n)) are (ap length are ∙ length-map rows test) ∙ where-from test rows [] rows refl 0 refl

-- without a condition these are all places
all-from : (n : ℕ) (rows : List Row) → range_with_len n (length rows) ≡ places_where n (keeps None) rows
all-from n [] = refl
all-from n (row ∷ rows) = ap (λ (places : List ℕ). n ∷ places) (all-from (n + 1) rows ∙ ap (λ (i : ℕ). places_where i (keeps None) rows) (add-one n))

pub all-places : (rows : List Row) → range_with_len 0 (length rows) ≡ places_where 0 (keeps None) rows
all-places rows = all-from 0 rows
