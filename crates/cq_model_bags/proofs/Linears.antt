-- Filters and projections are linear, and a difference leads from the old bag to the new one.
use Rattle.std.proofs.Common.{◌≡◌, neg_ℤ, Bool, [], ◌∷◌, ◌++◌, refl, ◌∙◌, ap}
use Rattle.cq_values.specs.Value.{Row}
use Rattle.cq_model_bags.specs.Bag.{Weighted, weight_of, negative, filtered, projected, total}
use Rattle.cq_model_bags.specs.Laws.{IsLinear}
use Rattle.cq_model_bags.proofs.Totals.{by_test, is_row, weight_of-total, total-projected}
use Rattle.cq_model_bags.proofs.Bags.{filtered-respects, projected-respects}

-- a filter of two changes together is what it keeps of each
pub filtered-append : (keep : Row → Bool) (xs ys : Weighted) → filtered keep (xs ++ ys) ≡ filtered keep xs ++ filtered keep ys
filtered-append keep [] ys = refl
filtered-append keep (x ∷ xs) ys = by_test (keep x.0) (λ k. rw (k, filtered-append keep xs ys) refl) (λ k. rw (k, filtered-append keep xs ys) refl)

-- a filter of a change that is taken back is its kept rows taken back
pub filtered-negative : (keep : Row → Bool) (xs : Weighted) → filtered keep (negative xs) ≡ negative (filtered keep xs)
filtered-negative keep [] = refl
filtered-negative keep (x ∷ xs) = by_test (keep x.0) (λ k. rw (k, filtered-negative keep xs) refl) (λ k. rw (k, filtered-negative keep xs) refl)

-- the images of two changes together are those of each
pub projected-append : (f : Row → Row) (xs ys : Weighted) → projected f (xs ++ ys) ≡ projected f xs ++ projected f ys
projected-append f [] ys = refl
projected-append f (x ∷ xs) ys = ap (λ zs. (f x.0, x.1) ∷ zs) (projected-append f xs ys)

-- the images of a change that is taken back are its images taken back
pub projected-negative : (f : Row → Row) (xs : Weighted) → projected f (negative xs) ≡ negative (projected f xs)
projected-negative f [] = refl
projected-negative f (x ∷ xs) = ap (λ zs. (f x.0, neg_ℤ x.1) ∷ zs) (projected-negative f xs)

-- a filter is linear
pub filtered-linear : (keep : Row → Bool) → IsLinear (filtered keep)
filtered-linear keep = record { same_bag = filtered-respects keep; sums = filtered-append keep; negatives = filtered-negative keep }

-- a projection is linear
pub projected-linear : (f : Row → Row) → IsLinear (projected f)
projected-linear f = record { same_bag = projected-respects f; sums = projected-append f; negatives = projected-negative f }

-- an image weighs what the rows that give it weigh together
pub weight_of-projected : (f : Row → Row) (xs : Weighted) (q : Row) → weight_of (projected f xs) q ≡ total (λ r. is_row q (f r)) xs
weight_of-projected f xs q = weight_of-total (projected f xs) q ∙ total-projected (is_row q) f xs
