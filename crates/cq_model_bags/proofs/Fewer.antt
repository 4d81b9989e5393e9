-- A filter leaves no more entries and pairs than there were.
use Rattle.std.proofs.Common.{ℕ, ◌≤◌, Bool, true, false, cond, List, [], ◌∷◌, filter, length, arith}
use Rattle.std.specs.List.{sum_by}
use Rattle.std.proofs.lemmas.List.Sums.{sum_by-cons, length-filter}
use Rattle.cq_values.specs.Value.{Row}
use Rattle.cq_model_bags.specs.Bag.{Weighted, filtered}
use Rattle.cq_model_bags.specs.Size.{entries, size, pairs_met}
use Rattle.cq_model_bags.proofs.Sizes.{sum-ones, entry_sum-filtered}

-- a sum of smaller terms is no larger
pub sum-fewer : (f g : Row → ℕ) → ((r : Row) → f r ≤ g r) → (rows : List Row) → sum_by f rows ≤ sum_by g rows
sum-fewer f g h [] = omega arith
sum-fewer f g h (r ∷ rows) = omega (arith, sum_by-cons f r rows, sum_by-cons g r rows, h r, sum-fewer f g h rows)

-- a term or nothing is no more than the term
cond-fewer : (b : Bool) (m n : ℕ) → m ≤ n → cond b m 0 ≤ n
cond-fewer true m n h = h
cond-fewer false m n h = omega arith

-- a sum over the entries that a filter leaves is no larger
pub entry_sum-fewer : (f g : Row → ℕ) → ((r : Row) → f r ≤ g r) → (p : Row → Bool) (xs : Weighted) → sum_by f (entries (filtered p xs)) ≤ sum_by g (entries xs)
entry_sum-fewer f g h p xs = omega (arith, entry_sum-filtered f p xs, sum-fewer (λ r. cond (p r) (f r) 0) g (λ r. cond-fewer (p r) (f r) (g r) (h r)) (entries xs))

-- no more entries
pub size-fewer : (p : Row → Bool) (xs : Weighted) → size (filtered p xs) ≤ size xs
size-fewer p xs = omega (arith, sum-ones (entries (filtered p xs)), sum-ones (entries xs), entry_sum-fewer (λ r. 1) (λ r. 1) (λ r. omega arith) p xs)

-- no more entries that pass
partners-fewer : (on p : Row → Bool) (ys : Weighted) → length (filter on (entries (filtered p ys))) ≤ length (filter on (entries ys))
partners-fewer on p ys =
    omega (arith, length-filter on (entries (filtered p ys)), length-filter on (entries ys), entry_sum-fewer (λ s. cond (on s) 1 0) (λ s. cond (on s) 1 0) (λ s. omega arith) p ys)

-- no more pairs
pub pairs-fewer : (on : Row → Row → Bool) (p q : Row → Bool) (xs ys : Weighted) → pairs_met on (filtered p xs) (filtered q ys) ≤ pairs_met on xs ys
pairs-fewer on p q xs ys = entry_sum-fewer (λ r. length (filter (on r) (entries (filtered q ys)))) (λ r. length (filter (on r) (entries ys))) (λ r. partners-fewer (on r) q ys) p xs
