-- Bags, with no row below zero, are kept by each operator.
use Rattle.std.proofs.Common.{ℤ, pos, negsuc, ◌*ℤ◌, ◌≤ℤ◌, ◌<ℤ◌, Bool, true, false, cond, List, [], ◌∷◌, ◌++◌, sym, ◌∙◌, arith, subst}
use Rattle.std.proofs.lemmas.Int.{ints}
use Rattle.cq_values.specs.Value.{Row}
use Rattle.cq_values.specs.Order.{same_row}
use Rattle.cq_model_bags.specs.Bag.{Weighted, weight_of, SameBag, IsBag, once_each, filtered, projected, joined, distinct, distinct_rows, total}
use Rattle.cq_model_bags.proofs.Totals.{by_test, is_row, weight_of-total, weight_of-filtered, total-projected, total-respects}
use Rattle.cq_model_bags.proofs.Joins.{beside, weight_of-joined}
use Rattle.cq_model_bags.proofs.Entries.{weighed, bag-entries}

-- a product of numbers that are not negative
product-positive : (a b : ℤ) → pos 0 ≤ℤ a → pos 0 ≤ℤ b → pos 0 ≤ℤ (a *ℤ b)
product-positive (pos m) (pos n) p q = omega (arith, ints)
product-positive (pos m) (negsuc n) p q = absurd (omega (arith, ints))
product-positive (negsuc m) b p q = absurd (omega (arith, ints))

-- a sum of such products
sum-positive : (w f : Row → ℤ) → ((r : Row) → pos 0 ≤ℤ w r) → ((r : Row) → pos 0 ≤ℤ f r) → (rows : List Row) → pos 0 ≤ℤ total f (weighed w (once_each rows))
sum-positive w f p q [] = omega (arith, ints)
sum-positive w f p q (r ∷ rows) =
    let here = product-positive (pos 1 *ℤ w r) (f r) (product-positive (pos 1) (w r) (omega (arith, ints)) (p r)) (q r) in
    omega (arith, ints, here, sum-positive w f p q rows)

-- a sum of terms that aren't negative, over a bag
pub total-positive : (f : Row → ℤ) → ((r : Row) → pos 0 ≤ℤ f r) → (xs : Weighted) → IsBag xs → pos 0 ≤ℤ total f xs
total-positive f q xs b =
    subst (λ n. pos 0 ≤ℤ n) (total-respects f (weighed (weight_of xs) (distinct xs)) xs (bag-entries xs b)) (sum-positive (weight_of xs) f b.at q (distinct_rows xs))

-- a number that is not negative, or zero
test-positive : (b : Bool) (n : ℤ) → pos 0 ≤ℤ n → pos 0 ≤ℤ cond b n (pos 0)
test-positive true n h = h
test-positive false n h = omega (arith, ints)

-- the test of a row
row-positive : (r q : Row) → pos 0 ≤ℤ is_row r q
row-positive r q = test-positive (same_row q r) (pos 1) (omega (arith, ints))

-- a list with the rows of a bag is one
pub bag-same : (xs ys : Weighted) → SameBag xs ys → IsBag ys → IsBag xs
bag-same xs ys same bag = record { at = λ r. rw (same.at r) (bag.at r) }

-- a filter of a bag is a bag
pub filtered-bag : (keep : Row → Bool) (xs : Weighted) → IsBag xs → IsBag (filtered keep xs)
filtered-bag keep xs b = record { at = λ r. subst (λ n. pos 0 ≤ℤ n) (sym (weight_of-filtered keep xs r)) (test-positive (keep r) (weight_of xs r) (b.at r)) }

-- and a row that a filter keeps was there before
pub kept-there : (keep : Row → Bool) (xs : Weighted) (row : Row) → pos 0 <ℤ weight_of (filtered keep xs) row → pos 0 <ℤ weight_of xs row
kept-there keep xs row h =
    let weighs : pos 0 <ℤ cond (keep row) (weight_of xs row) (pos 0) = subst (λ n. pos 0 <ℤ n) (weight_of-filtered keep xs row) h in
    by_test (keep row) (λ k. rw k at weighs) (λ k. absurd (let none : pos 0 <ℤ pos 0 = rw k at weighs in omega (arith, ints)))

-- the images of a bag are a bag
pub projected-bag : (f : Row → Row) (xs : Weighted) → IsBag xs → IsBag (projected f xs)
projected-bag f xs b = record { at = λ r. subst (λ n. pos 0 ≤ℤ n) (sym (weight_of-total (projected f xs) r ∙ total-projected (is_row r) f xs)) (total-positive (λ q. is_row r (f q)) (λ q. row-positive r (f q)) xs b) }

-- a join of bags is a bag
pub joined-bag : (on : Row → Row → Bool) (xs ys : Weighted) → IsBag xs → IsBag ys → IsBag (joined on xs ys)
joined-bag on xs ys b c = record {
  at = λ r. subst (λ n. pos 0 ≤ℤ n) (sym (weight_of-joined on xs ys r))
      (total-positive (λ q. total (beside (is_row r) on q) ys) (λ q. total-positive (beside (is_row r) on q) (λ s. test-positive (on q s) (is_row r (q ++ s)) (row-positive r (q ++ s))) ys c) xs b);
}
