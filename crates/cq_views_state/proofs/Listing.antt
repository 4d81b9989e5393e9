-- Rows that stand as often as their weights say, and what holds of them.
use Rattle.std.proofs.Common.{◌≡◌, ◌∙◌, ℕ, zero, suc, ℤ, ◌+◌, pos, ◌+ℤ◌, ◌≤ℤ◌, ◌<ℤ◌, true, false, cond, List, [], ◌∷◌, ◌++◌, take, slice_get, Some, refl, sym, ap, subst, arith}
use Rattle.std.proofs.lemmas.Int.{ints}
use Rattle.std.proofs.lemmas.List.{map-append}
use Rattle.std.specs.List.{AllByRecursion, IsDistinct}
use Rattle.std.specs.Map.{keys_of}
use Rattle.cq_values.specs.Keys.{same_row-refl, same_row-same}
use Rattle.cq_values.specs.Order.{same_row}
use Rattle.cq_values.specs.Value.{Row}
use Rattle.cq_model_bags.proofs.Distincts.{is_among}
use Rattle.cq_model_bags.proofs.Listings.{weight_of-once_each}
use Rattle.cq_model_bags.proofs.Totals.{by_test, weight_of-append}
use Rattle.cq_model_bags.specs.Bag.{Weighted, SameBag, IsBag, once_each, weight_of}
use Rattle.cq_model_bags.specs.Size.{IsClean}
use Rattle.cq_model_laws.proofs.Ranges.{all-from}
use Rattle.cq_model_bags.proofs.Sizes.{listed-all, weightless}
use Rattle.cq_model.proofs.Occurring.{row-to-test}
use Rattle.cq_model_bags.proofs.Lists.{take-next}

-- ---- one row, so many times
-- at first none is there
pub times-none : (old : List Row) (row : Row) → SameBag (once_each old) (once_each old ++ (row, pos 0) ∷ [])
times-none old row = record {
  at = λ q.
      let whole = weight_of-append (once_each old) ((row, pos 0) ∷ []) q in
      by_test (same_row row q)
      (λ s. let one : weight_of ((row, pos 0) ∷ []) q ≡ pos 0 = rw s refl in omega (arith, ints, whole, one))
      (λ s. let one : weight_of ((row, pos 0) ∷ []) q ≡ pos 0 = rw s refl in omega (arith, ints, whole, one));
}

-- then one more
times-more : (old cur : List Row) (row copy : Row) (n : ℤ) → copy ≡ row → SameBag (once_each cur) (once_each old ++ (row, n) ∷ [])
    → SameBag (once_each (cur ++ copy ∷ [])) (once_each old ++ (row, n +ℤ pos 1) ∷ [])
times-more old cur row copy n is so_far = record {
  at = λ q.
      let here : weight_of (once_each (cur ++ copy ∷ [])) q ≡ weight_of (once_each cur ++ (row, pos 1) ∷ []) q =
      ap (λ (xs : Weighted). weight_of xs q) (map-append (λ (r : Row). (r, pos 1)) cur (copy ∷ []) ∙ ap (λ (r : Row). once_each cur ++ (r, pos 1) ∷ []) is) in
      let a = weight_of-append (once_each cur) ((row, pos 1) ∷ []) q in
      let b = so_far.at q ∙ weight_of-append (once_each old) ((row, n) ∷ []) q in
      let d = weight_of-append (once_each old) ((row, n +ℤ pos 1) ∷ []) q in
      by_test (same_row row q)
      (λ s.
      let one : weight_of ((row, pos 1) ∷ []) q ≡ pos 1 = rw s refl in
      let before : weight_of ((row, n) ∷ []) q ≡ n +ℤ pos 0 = rw s refl in
      let now : weight_of ((row, n +ℤ pos 1) ∷ []) q ≡ (n +ℤ pos 1) +ℤ pos 0 = rw s refl in
      omega (arith, ints, here, a, b, d, one, before, now))
      (λ s.
      let one : weight_of ((row, pos 1) ∷ []) q ≡ pos 0 = rw s refl in
      let before : weight_of ((row, n) ∷ []) q ≡ pos 0 = rw s refl in
      let now : weight_of ((row, n +ℤ pos 1) ∷ []) q ≡ pos 0 = rw s refl in
      omega (arith, ints, here, a, b, d, one, before, now));
}

pub times-added : (old cur : List Row) (row copy : Row) (n : ℤ) → copy ≡ row → SameBag (once_each cur) (once_each old ++ (row, n) ∷ []) → (new : List Row) → new ≡ cur ++ copy ∷ []
    → SameBag (once_each new) (once_each old ++ (row, n +ℤ pos 1) ∷ [])
times-added old cur row copy n is so_far new added =
    subst (λ (rows : List Row). SameBag (once_each rows) (once_each old ++ (row, n +ℤ pos 1) ∷ [])) (sym added) (times-more old cur row copy n is so_far)

-- ---- all rows
distinct-positive : (xs : Weighted) → IsDistinct same_row (keys_of xs) → ((r : Row) → pos 0 ≤ℤ weight_of xs r) → AllByRecursion (λ x. pos 0 ≤ℤ x.1) xs
unfolding IsDistinct
distinct-positive [] d bag = tt
distinct-positive (x ∷ xs) d bag = (
  omega (arith, ints, bag x.0, head, weightless xs x.0 d.0),
  distinct-positive xs d.1 (λ r. by_test (same_row x.0 r)
      (λ s. let same : weight_of xs r ≡ pos 0 = ap (weight_of xs) (sym (same_row-same x.0 r s)) ∙ weightless xs x.0 d.0 in omega (arith, ints, same))
      (λ s. omega (arith, ints, bag r, tail r s))),
)
  where
    head : weight_of (x ∷ xs) x.0 ≡ x.1 +ℤ weight_of xs x.0
    head = ap (λ b. cond b x.1 (pos 0) +ℤ weight_of xs x.0) (same_row-refl x.0)

    tail : (r : Row) → same_row x.0 r ≡ false → weight_of (x ∷ xs) r ≡ pos 0 +ℤ weight_of xs r
    tail r s = ap (λ b. cond b x.1 (pos 0) +ℤ weight_of xs r) s

weight-at : (xs : Weighted) (i : ℕ) (row : Row) (weight : ℤ) → slice_get xs i ≡ Some (row, weight) → AllByRecursion (λ x. pos 0 ≤ℤ x.1) xs → pos 0 ≤ℤ weight
weight-at [] i row weight is all = absurd (cc is)
weight-at (x ∷ xs) zero row weight is all = subst (λ (n : ℤ). pos 0 ≤ℤ n) (cc is) all.0
weight-at (x ∷ xs) (suc i) row weight is all = weight-at xs i row weight is all.1

-- of a bag whose rows stand once, no entry has a weight below zero
pub entry-positive : (xs : Weighted) (i : ℕ) (row : Row) (weight : ℤ) → slice_get xs i ≡ Some (row, weight) → IsClean xs → IsBag xs → pos 0 ≤ℤ weight
entry-positive xs i row weight is clean bag = weight-at xs i row weight is (distinct-positive xs clean.once bag.at)

-- the entries so far and one more
pub listed-more : (xs : Weighted) (i : ℕ) (x : Row × ℤ) → slice_get xs i ≡ Some x → (old new : List Row) → SameBag (once_each old) (take i xs)
    → SameBag (once_each new) (once_each old ++ x ∷ []) → SameBag (once_each new) (take (i + 1) xs)
listed-more xs i x at old new so_far add = record {
  at = λ q.
      let a = add.at q ∙ weight_of-append (once_each old) (x ∷ []) q in
      let b = ap (λ (ys : Weighted). weight_of ys q) (take-next xs i x at) ∙ weight_of-append (take i xs) (x ∷ []) q in
      omega (arith, ints, a, b, so_far.at q);
}

-- ---- what holds of them
-- a row that is listed weighs something
pub weight-among : (rows : List Row) (r : Row) → is_among r rows ≡ true → pos 0 <ℤ weight_of (once_each rows) r
weight-among [] r h = absurd (cc)
weight-among (s ∷ rows) r h = by_test (same_row s r)
    (λ b. rw b (omega (arith, ints, weight_of-once_each rows r)))
    (λ b. rw b (omega (arith, ints, weight-among rows r (rw b at h))))

-- so it holds of rows that stand as often as these weigh
pub listed-once : (P : Row → Type 0) (rows : List Row) (ys : Weighted) → SameBag (once_each rows) ys
    → AllByRecursion (λ y. P y.0) ys → AllByRecursion P rows
listed-once P rows ys same all = all-from P rows (λ r among.
    let weight = weight-among rows r (row-to-test r rows among) in
    listed-all P ys r all (λ none. absurd (omega (arith, ints, weight, same.at r, none))))
