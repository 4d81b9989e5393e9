-- A bag is its rows with their weights, and a projected row is there exactly where a row that gives it is.
use Rattle.std.proofs.Common.{◌≡◌, ℤ, pos, negsuc, ◌+ℤ◌, ◌*ℤ◌, ◌≤ℤ◌, ◌<ℤ◌, Bool, true, not, cond, List, [], ◌∷◌, map, filter, refl, sym, ◌∙◌, ap, arith, int_lt}
use Rattle.std.specs.List.{AllByRecursion, list_any}
use Rattle.std.proofs.Math.IntN.{+ℤ_idl, zero-*ℤ, *ℤ-zero}
use Rattle.std.proofs.lemmas.Int.{ints}
use Rattle.cq_values.specs.Value.{Row}
use Rattle.cq_values.specs.Order.{same_row}
use Rattle.cq_values.specs.Keys.{same_row-same}
use Rattle.cq_model_bags.specs.Bag.{Weighted, weight_of, SameBag, IsBag, once_each, projected, firsts, distinct_rows, distinct, total}
use Rattle.cq_model_bags.proofs.Integers.{mul-distribute-right}
use Rattle.cq_model_bags.proofs.Totals.{by_test, is_row, weight_of-total, total-respects, total-projected}
use Rattle.cq_model_bags.proofs.Lists.{all-filter}
use Rattle.cq_model_bags.proofs.Distincts.{weight_of-distinct}

-- rows with the weights that a list gives them
abbrev pub weighed : (Row → ℤ) → Weighted → Weighted
weighed w xs = map (λ x. (x.0, x.1 *ℤ w x.0)) xs

-- a row then weighs the product
pub weight_of-weighed : (w : Row → ℤ) (xs : Weighted) (r : Row) → weight_of (weighed w xs) r ≡ weight_of xs r *ℤ w r
weight_of-weighed w [] r = sym (zero-*ℤ (w r))
weight_of-weighed w (x ∷ xs) r = by_test (same_row x.0 r)
    (λ s. let e = ap w (same_row-same x.0 r s) in rw (s, e, weight_of-weighed w xs r) (sym (mul-distribute-right x.1 (weight_of xs r) (w r))))
    (λ s. rw (s, weight_of-weighed w xs r, +ℤ_idl (weight_of xs r)) (+ℤ_idl (weight_of xs r *ℤ w r)))

-- once a weight above zero, and no weight of zero
one_or_none : (w : ℤ) → pos 0 ≤ℤ w → cond (int_lt (pos 0) w) (pos 1) (pos 0) *ℤ w ≡ w
one_or_none (pos n) h = by_test (int_lt (pos 0) (pos n))
    (λ k. rw k (omega (arith, ints)))
    (λ k. rw k (omega (arith, ints)))
one_or_none (negsuc n) h = absurd (omega (arith, ints))

-- no row below zero: the bag is its distinct rows, each with its weight
pub bag-entries : (xs : Weighted) → IsBag xs → SameBag (weighed (weight_of xs) (distinct xs)) xs
bag-entries xs b = record { at = λ r. weight_of-weighed (weight_of xs) (distinct xs) r ∙ ap (λ n. n *ℤ weight_of xs r) (weight_of-distinct xs r) ∙ one_or_none (weight_of xs r) (b.at r) }

-- each of these rows has a positive weight
abbrev pub ArePositive : (Row → ℤ) → List Row → Type 0
ArePositive w rows = AllByRecursion (λ r. int_lt (pos 0) (w r) ≡ true) rows

-- the test of a weight above zero
so_positive : (n : ℤ) → pos 0 <ℤ n → true ≡ int_lt (pos 0) n
so_positive n h = omega (arith, ints)

-- a sum of positive weights is above zero where a row passes
positive-sum : (w : Row → ℤ) (t : Row → Bool) (rows : List Row) → ArePositive w rows
    → (pos 0 ≤ℤ total (λ r. cond (t r) (pos 1) (pos 0)) (weighed w (once_each rows))) × (int_lt (pos 0) (total (λ r. cond (t r) (pos 1) (pos 0)) (weighed w (once_each rows))) ≡ list_any t rows)
positive-sum w t [] p = (omega (arith, ints), refl)
positive-sum w t (r ∷ rows) p =
    let rest = positive-sum w t rows p.1 in
    let more = total (λ q. cond (t q) (pos 1) (pos 0)) (weighed w (once_each rows)) in
    by_test (t r)
    (λ k. let here = (pos 1 *ℤ w r) *ℤ pos 1 in
    rw k (omega (arith, ints, rest.0, p.0), sym (so_positive ((pos 1 *ℤ w r) *ℤ pos 1 +ℤ more) (omega (arith, ints, rest.0, p.0)))))
    (λ k. rw (k, *ℤ-zero (pos 1 *ℤ w r), +ℤ_idl more) rest)

-- what holds of all holds of the first ones
all-firsts : (P : Row → Type 0) (rows : List Row) → AllByRecursion P rows → AllByRecursion P (firsts rows)
all-firsts P [] a = tt
all-firsts P (r ∷ rows) a = (a.0, all-filter P (λ s. not (same_row r s)) (firsts rows) (all-firsts P rows a.1))

-- what a filter keeps passes
all-kept : (keep : Row → Bool) (xs : Weighted) → AllByRecursion (λ r. keep r ≡ true) (map (λ x. x.0) (filter (λ x. keep x.0) xs))
all-kept keep [] = tt
all-kept keep (x ∷ xs) = by_test (keep x.0) (λ k. rw k (k, all-kept keep xs)) (λ k. rw k (all-kept keep xs))

-- distinct rows have positive weights
pub distinct_rows-positive : (xs : Weighted) → ArePositive (weight_of xs) (distinct_rows xs)
distinct_rows-positive xs = all-firsts (λ r. int_lt (pos 0) (weight_of xs r) ≡ true) (map (λ x. x.0) (filter (λ x. int_lt (pos 0) (weight_of xs x.0)) xs)) (all-kept (λ r. int_lt (pos 0) (weight_of xs r)) xs)

-- an image is there exactly where a row that gives it is there
pub image-there : (f : Row → Row) (xs : Weighted) → IsBag xs → (q : Row) → int_lt (pos 0) (weight_of (projected f xs) q) ≡ list_any (λ r. same_row (f r) q) (distinct_rows xs)
image-there f xs b q =
    ap (int_lt (pos 0)) (weight_of-total (projected f xs) q ∙ total-projected (is_row q) f xs
    ∙ sym (total-respects (λ r. is_row q (f r)) (weighed (weight_of xs) (distinct xs)) xs (bag-entries xs b)))
    ∙ (positive-sum (weight_of xs) (λ r. same_row (f r) q) (distinct_rows xs) (distinct_rows-positive xs)).1
