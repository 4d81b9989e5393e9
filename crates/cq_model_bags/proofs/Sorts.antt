-- What a sort ensures, as a list in order with the same rows.
use Rattle.std.proofs.Common.{◌≡◌, ℕ, suc, ◌+◌, ◌≤◌, ◌<◌, false, cond, List, [], ◌∷◌, length, get_or, refl, sym, ◌∙◌, ap, arith, Ordering, Less, Equal, Greater, pos}
use Rattle.std.specs.List.{sum_by}
use Rattle.std.specs.List.Sorted.{IsPermutation, IsSortedBy}
use Rattle.std.specs.Ordering.{is_gt, is_lt, ordering_reverse}
use Rattle.std.specs.Cmp.{IsTotalOrder}
use Rattle.std.proofs.lemmas.List.Sums.{sum_by-cons}
use Rattle.std.proofs.lemmas.List.Sorted.{sum_by-IsPermutation, sorted_far, ranks_by}
use Rattle.cq_values.specs.Value.{Row}
use Rattle.cq_values.specs.Order.{same_row}
use Rattle.cq_model_bags.specs.Bag.{SameBag, once_each}
use Rattle.cq_model_bags.specs.Listing.{IsInOrder}
use Rattle.cq_model_bags.proofs.Lists.{all-listed}
use Rattle.cq_model_bags.proofs.Listings.{times_in, weight_of-once_each}

times_in-sum : (r : Row) (xs : List Row) → times_in r xs ≡ sum_by (λ s. cond (same_row s r) 1 0) xs
times_in-sum r [] = refl
times_in-sum r (x ∷ xs) = ap {B = ℕ} (λ n. cond (same_row x r) 1 0 + n) (times_in-sum r xs) ∙ sym (sum_by-cons (λ s. cond (same_row s r) 1 0) x xs)

-- rows in another order are the same bag
pub SameBag-permutation : (xs ys : List Row) → IsPermutation xs ys → SameBag (once_each ys) (once_each xs)
SameBag-permutation xs ys p = record {
  at = λ r.
      weight_of-once_each ys r ∙ ap pos (times_in-sum r ys ∙ sum_by-IsPermutation (λ s. cond (same_row s r) 1 0) xs ys p ∙ sym (times_in-sum r xs)) ∙ sym (weight_of-once_each xs r);
}

not_lt : (o : Ordering) → is_lt o ≡ false → is_gt (ordering_reverse o) ≡ false
not_lt Less h = absurd (cc)
not_lt Equal h = refl
not_lt Greater h = refl

in_order-from_index : (cmp : Row → Row → Ordering) (xs : List Row) → ((i j : ℕ) (d : Row) → i ≤ j → j < length xs → is_gt (cmp (get_or xs i d) (get_or xs j d)) ≡ false) → IsInOrder cmp xs
in_order-from_index cmp [] f = tt
in_order-from_index cmp (x ∷ xs) f = (
  all-listed (λ s. is_gt (cmp x s) ≡ false) xs (λ j d h. f 0 (suc j) d (omega arith) (omega arith)),
  in_order-from_index cmp xs (λ i j d p q. f (suc i) (suc j) d (omega arith) (omega arith)),
)

pub in_order-sorted : {cmp : Row → Row → Ordering} (o : IsTotalOrder cmp) (xs : List Row) → IsSortedBy (λ x y. is_lt (cmp x y)) xs → IsInOrder cmp xs
in_order-sorted {cmp} o xs s = in_order-from_index cmp xs (λ i j d p q.
    ap is_gt (o.antisymm (get_or xs i d) (get_or xs j d)) ∙ not_lt (cmp (get_or xs j d) (get_or xs i d)) (sorted_far (λ x y. is_lt (cmp x y)) (ranks_by o (λ x. x)) xs s i j d p q))
