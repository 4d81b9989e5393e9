-- Which values occur in rows.
use Rattle.std.proofs.Common.{◌≡◌, Bool, true, ◌||◌, List, [], ◌∷◌, map, filter, refl, sym, ◌∙◌, ap, ◌⊎◌, inl, inr}
use Rattle.cq_values.specs.declared.value.Value.{Value}
use Rattle.cq_values.specs.Value.{Row}
use Rattle.cq_values.specs.Order.{same_row}
use Rattle.cq_values.specs.Keys.{same_row-refl, same_row-same}
use Rattle.cq_model_bags.proofs.Totals.{by_test}
use Rattle.cq_model_bags.proofs.Distincts.{is_among}
use Rattle.cq_model.proofs.Extremes.{IsOne}

-- a row is one of these
abbrev pub IsRowOf : Row → List Row → Type 0
IsRowOf r [] = ⊥
IsRowOf r (s ∷ rows) = (r ≡ s) ⊎ IsRowOf r rows

-- a row that the test finds is listed
pub row-from-test : (r : Row) (rows : List Row) → is_among r rows ≡ true → IsRowOf r rows
row-from-test r [] h = absurd (cc)
row-from-test r (s ∷ rows) h = by_test (same_row s r)
    (λ k. inl (sym (same_row-same s r k)))
    (λ k. inr (row-from-test r rows (sym (ap (λ b. b || is_among r rows) k) ∙ h)))

-- the test finds a row that is listed
pub row-to-test : (r : Row) (rows : List Row) → IsRowOf r rows → is_among r rows ≡ true
row-to-test r [] h = absurd h
row-to-test r (s ∷ rows) (inl e) = rw (e, same_row-refl s) refl
row-to-test r (s ∷ rows) (inr h) = by_test (same_row s r) (λ k. rw k refl) (λ k. rw k (row-to-test r rows h))

-- the values that pass a test, of these rows
abbrev pub kept_values : (Row → Value) → (Value → Bool) → List Row → List Value
kept_values f keep rows = filter keep (map f rows)

-- a value that is kept is that of a row
pub value-from-rows : (f : Row → Value) (keep : Value → Bool) (rows : List Row) (v : Value) → IsOne v (kept_values f keep rows) → (r : Row) × IsRowOf r rows × (f r ≡ v) × (keep v ≡ true)
value-from-rows f keep [] v h = absurd h
value-from-rows f keep (s ∷ rows) v h = by_test (keep (f s))
    (λ k. elim (rw k at h) [
      | inl e ↦ (s, inl refl, sym e, ap keep e ∙ k)
      | inr t ↦ let q = value-from-rows f keep rows v t in (q.0, inr q.1, q.2, q.3)
    ])
    (λ k. let q = value-from-rows f keep rows v (rw k at h) in (q.0, inr q.1, q.2, q.3))

-- a row's value is kept where it passes
pub value-to-rows : (f : Row → Value) (keep : Value → Bool) (rows : List Row) (r : Row) → IsRowOf r rows → keep (f r) ≡ true → IsOne (f r) (kept_values f keep rows)
value-to-rows f keep [] r h k = absurd h
value-to-rows f keep (s ∷ rows) r (inl e) k = let t : keep (f s) ≡ true = sym (ap (λ x. keep (f x)) e) ∙ k in rw t (inl (ap f e))
value-to-rows f keep (s ∷ rows) r (inr h) k = by_test (keep (f s))
    (λ t. rw t (inr (value-to-rows f keep rows r h k)))
    (λ t. rw t (value-to-rows f keep rows r h k))
