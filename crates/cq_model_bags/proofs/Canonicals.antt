-- Rows in order stand for their bag.
use Rattle.std.proofs.Common.{◌≡◌, ℕ, suc, pos, length, ◌+◌, false, cond, List, [], ◌∷◌, ◌++◌, refl, sym, ◌∙◌, ap, arith, Ordering}
use Rattle.std.specs.List.{AllByRecursion}
use Rattle.std.specs.Ordering.{is_gt}
use Rattle.std.specs.Cmp.{IsTotalOrder}
use Rattle.std.proofs.lemmas.Cmp.{upto}
use Rattle.cq_values.specs.Value.{Row}
use Rattle.cq_values.specs.Order.{row_cmp, same_row}
use Rattle.cq_values.specs.Keys.{row_cmp_total, row_cmp_same}
use Rattle.cq_model_bags.specs.Bag.{SameBag, once_each}
use Rattle.cq_model_bags.specs.Listing.{IsInOrder}
use Rattle.cq_model_bags.specs.Canonical.{with_row, sorted_by, bag_of}
use Rattle.cq_model_bags.proofs.Totals.{by_test}
use Rattle.cq_model_bags.proofs.Listings.{times_in, weight_of-once_each, one_order, same_times, after_other}

pub times_in-with_row : (cmp : Row → Row → Ordering) (r : Row) (rows : List Row) (q : Row) → times_in q (with_row cmp r rows) ≡ times_in q (r ∷ rows)
times_in-with_row cmp r [] q = refl
times_in-with_row cmp r (s ∷ rows) q = by_test (is_gt (cmp r s))
    (λ k. rw (k, times_in-with_row cmp r rows q) (omega arith))
    (λ k. rw k refl)

pub times_in-sorted_by : (cmp : Row → Row → Ordering) (rows : List Row) (q : Row) → times_in q (sorted_by cmp rows) ≡ times_in q rows
times_in-sorted_by cmp [] q = refl
times_in-sorted_by cmp (r ∷ rows) q = times_in-with_row cmp r (sorted_by cmp rows) q ∙ ap {B = ℕ} (λ n. cond (same_row r q) 1 0 + n) (times_in-sorted_by cmp rows q)

-- what holds of a row and of all others holds of all together
pub all-with_row : (P : Row → Type 0) (cmp : Row → Row → Ordering) (r : Row) (rows : List Row) → P r → AllByRecursion P rows → AllByRecursion P (with_row cmp r rows)
all-with_row P cmp r [] p all = (p, tt)
all-with_row P cmp r (s ∷ rows) p all = by_test (is_gt (cmp r s))
    (λ k. rw k (all.0, all-with_row P cmp r rows p all.1))
    (λ k. rw k (p, all))

all-below : {cmp : Row → Row → Ordering} (o : IsTotalOrder cmp) (r s : Row) (rows : List Row) → is_gt (cmp r s) ≡ false → AllByRecursion (λ t. is_gt (cmp s t) ≡ false) rows → AllByRecursion (λ t. is_gt (cmp r t) ≡ false) rows
all-below o r s [] h all = tt
all-below o r s (t ∷ rows) h all = (upto o r s t h all.0, all-below o r s rows h all.1)

pub in_order-with_row : {cmp : Row → Row → Ordering} (o : IsTotalOrder cmp) (r : Row) (rows : List Row) → IsInOrder cmp rows → IsInOrder cmp (with_row cmp r rows)
in_order-with_row o r [] p = (tt, tt)
in_order-with_row {cmp} o r (s ∷ rows) p = by_test (is_gt (cmp r s))
    (λ k. rw k (all-with_row (λ t. is_gt (cmp s t) ≡ false) cmp r rows (after_other o r s k) p.0, in_order-with_row o r rows p.1))
    (λ k. rw k ((k, all-below o r s rows k p.0), p))

pub in_order-sorted_by : {cmp : Row → Row → Ordering} (o : IsTotalOrder cmp) (rows : List Row) → IsInOrder cmp (sorted_by cmp rows)
in_order-sorted_by o [] = tt
in_order-sorted_by {cmp} o (r ∷ rows) = in_order-with_row o r (sorted_by cmp rows) (in_order-sorted_by o rows)

-- rows of one bag have one list
pub bag_of-same : (xs ys : List Row) → ((r : Row) → times_in r xs ≡ times_in r ys) → bag_of xs ≡ bag_of ys
unfolding bag_of
bag_of-same xs ys t = one_order row_cmp_total row_cmp_same (sorted_by row_cmp xs) (sorted_by row_cmp ys) (in_order-sorted_by row_cmp_total xs) (in_order-sorted_by row_cmp_total ys)
    (λ r. times_in-sorted_by row_cmp xs r ∙ t r ∙ sym (times_in-sorted_by row_cmp ys r))

pub times_in-append : (xs ys : List Row) (r : Row) → times_in r (xs ++ ys) ≡ times_in r xs + times_in r ys
times_in-append [] ys r = omega arith
times_in-append (x ∷ xs) ys r = omega (arith, times_in-append xs ys r)

pub times_in-bag_of : (rows : List Row) (r : Row) → times_in r (bag_of rows) ≡ times_in r rows
unfolding bag_of
times_in-bag_of rows r = times_in-sorted_by row_cmp rows r

-- the bag stays as it is listed again, also with more rows
pub bag_of-again : (xs ys : List Row) → bag_of (bag_of xs ++ ys) ≡ bag_of (xs ++ ys)
bag_of-again xs ys = bag_of-same (bag_of xs ++ ys) (xs ++ ys) (λ r. omega (arith, times_in-append (bag_of xs) ys r, times_in-append xs ys r, times_in-bag_of xs r))

-- weights and the list say the same
pub bag_of-weights : (xs ys : List Row) → SameBag (once_each xs) (once_each ys) → bag_of xs ≡ bag_of ys
bag_of-weights xs ys s = bag_of-same xs ys (same_times xs ys s)

length-with_row : (cmp : Row → Row → Ordering) (r : Row) (rows : List Row) → length (with_row cmp r rows) ≡ suc (length rows)
length-with_row cmp r [] = refl
length-with_row cmp r (s ∷ rows) = by_test (is_gt (cmp r s)) (λ k. rw k (ap suc (length-with_row cmp r rows))) (λ k. rw k refl)

length-sorted_by : (cmp : Row → Row → Ordering) (rows : List Row) → length (sorted_by cmp rows) ≡ length rows
length-sorted_by cmp [] = refl
length-sorted_by cmp (r ∷ rows) = length-with_row cmp r (sorted_by cmp rows) ∙ ap suc (length-sorted_by cmp rows)

-- the list of a bag is as long as any list of its rows
pub length-bag_of : (rows : List Row) → length (bag_of rows) ≡ length rows
unfolding bag_of
length-bag_of rows = length-sorted_by row_cmp rows

-- and names the same bag
pub same-bag_of : (rows : List Row) → SameBag (once_each (bag_of rows)) (once_each rows)
same-bag_of rows = record { at = λ r. weight_of-once_each (bag_of rows) r ∙ ap pos (times_in-bag_of rows r) ∙ sym (weight_of-once_each rows r) }
