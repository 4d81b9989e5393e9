-- The first rows in order, and what they depend on.
use Rattle.std.proofs.Common.{◌≡◌, ℕ, zero, suc, ◌+◌, pos, false, List, [], ◌∷◌, ◌++◌, take, refl, sym, ◌∙◌, ap, arith, get_or, Ordering, Less, Equal, Greater, Option, Some, None}
use Rattle.std.specs.Ordering.{is_gt, is_lt, ordering_reverse}
use Rattle.cq_values.specs.Value.{Row}
use Rattle.cq_model_bags.specs.declared.sort_key.SortKey.{SortKey}
use Rattle.cq_model_bags.specs.Bag.{SameBag, once_each}
use Rattle.cq_model_bags.specs.Canonical.{with_row, sorted_by}
use Rattle.cq_model_bags.specs.Listing.{IsListing, Lists, first_rows, listing_cmp}
use Rattle.cq_model_bags.proofs.Totals.{by_test}
use Rattle.cq_model_bags.proofs.Listings.{times_in, weight_of-once_each, listing_cmp_total, one_list, one_listing}
use Rattle.cq_model_bags.proofs.Canonicals.{times_in-sorted_by, times_in-append, in_order-sorted_by}
use Rattle.cq_model_bags.proofs.Sorts.{in_order-sorted}
use Rattle.cq_operators_listing.specs.InOrder.{EachInOrder}
use Rattle.cq_operators_listing.specs.Stored.{StoredListing, CanList}

-- ---- the rows in order
-- two lists that have each row as often are one bag
pub same_bag : (xs ys : List Row) → ((r : Row) → times_in r xs ≡ times_in r ys) → SameBag (once_each xs) (once_each ys)
same_bag xs ys t = record { at = λ r. weight_of-once_each xs r ∙ ap pos (t r) ∙ sym (weight_of-once_each ys r) }

-- rows that were put in order are the list of their bag
pub lists-sorted_by : (keys : List SortKey) (rows others : List Row) → ((r : Row) → times_in r rows ≡ times_in r others) → Lists keys (once_each others) (sorted_by (listing_cmp keys) rows)
lists-sorted_by keys rows others t = record {
  same = same_bag (sorted_by (listing_cmp keys) rows) others (λ r. times_in-sorted_by (listing_cmp keys) rows r ∙ t r);
  in_order = in_order-sorted_by (listing_cmp_total keys) rows;
}

turned : (o : Ordering) → is_gt o ≡ false → is_lt (ordering_reverse o) ≡ false
turned Less h = refl
turned Equal h = refl
turned Greater h = absurd (cc h)

-- rows of which each stands in order with the one in front of it are the list of their bag
pub lists-in_order : (keys : List SortKey) (rows : List Row) → EachInOrder keys rows → Lists keys (once_each rows) rows
lists-in_order keys rows each =
    let o = listing_cmp_total keys in
    record {
      same = record { at = λ r. refl };
      in_order = in_order-sorted o rows (λ k d low high. ap is_lt (o.antisymm (get_or rows (k + 1) d) (get_or rows k d)) ∙ turned _ (each k d high));
    }

-- the first of these rows in order
abbrev pub listed : List SortKey → Option ℕ → List Row → List Row
listed keys limit rows = first_rows limit (sorted_by (listing_cmp keys) rows)

pub is_listing : (keys : List SortKey) (limit : Option ℕ) (rows : List Row) → IsListing keys limit (once_each rows) (listed keys limit rows)
is_listing keys limit rows = (sorted_by (listing_cmp keys) rows, lists-sorted_by keys rows rows (λ r. refl), refl)

-- rows of one bag are listed alike
pub listed-same : (keys : List SortKey) (limit : Option ℕ) (rows others : List Row) → ((r : Row) → times_in r rows ≡ times_in r others) → listed keys limit rows ≡ listed keys limit others
listed-same keys limit rows others t =
    ap (first_rows limit) (one_list keys (once_each others) _ _ (lists-sorted_by keys rows others t) (lists-sorted_by keys others others (λ r. refl)))

-- ---- the first rows depend on the first rows
take-again : (n : ℕ) (s : Row) (rows : List Row) → take n (s ∷ rows) ≡ take n (s ∷ take n rows)
take-again zero s rows = refl
take-again (suc n) s [] = refl
take-again (suc n) s (r ∷ rows) = ap (λ (rs : List Row). s ∷ rs) (take-again n r rows)

take-with_row : (cmp : Row → Row → Ordering) (r : Row) (n : ℕ) (rows : List Row) → take n (with_row cmp r rows) ≡ take n (with_row cmp r (take n rows))
take-with_row cmp r zero rows = refl
take-with_row cmp r (suc n) [] = refl
take-with_row cmp r (suc n) (s ∷ rows) = by_test (is_gt (cmp r s))
    (λ k. rw k (ap (λ (rs : List Row). s ∷ rs) (take-with_row cmp r n rows)))
    (λ k. rw k (ap (λ (rs : List Row). r ∷ rs) (take-again n s rows)))

first-with_row : (cmp : Row → Row → Ordering) (limit : Option ℕ) (r : Row) (rows others : List Row)
    → first_rows limit rows ≡ first_rows limit others → first_rows limit (with_row cmp r rows) ≡ first_rows limit (with_row cmp r others)
first-with_row cmp None r rows others e = ap (with_row cmp r) e
first-with_row cmp (Some n) r rows others e = take-with_row cmp r n rows ∙ ap (λ rs. take n (with_row cmp r rs)) e ∙ sym (take-with_row cmp r n others)

-- rows in front of both
listed-more : (keys : List SortKey) (limit : Option ℕ) (rows others more : List Row)
    → listed keys limit rows ≡ listed keys limit others → listed keys limit (more ++ rows) ≡ listed keys limit (more ++ others)
listed-more keys limit rows others [] e = e
listed-more keys limit rows others (r ∷ more) e =
    first-with_row (listing_cmp keys) limit r (sorted_by (listing_cmp keys) (more ++ rows)) (sorted_by (listing_cmp keys) (more ++ others)) (listed-more keys limit rows others more e)

-- rows behind are rows in front
pub listed-swap : (keys : List SortKey) (limit : Option ℕ) (rows more : List Row) → listed keys limit (rows ++ more) ≡ listed keys limit (more ++ rows)
listed-swap keys limit rows more =
    listed-same keys limit (rows ++ more) (more ++ rows) (λ r. omega (arith, times_in-append rows more r, times_in-append more rows r))

-- rows behind both
pub listed-append : (keys : List SortKey) (limit : Option ℕ) (rows others more : List Row)
    → listed keys limit rows ≡ listed keys limit others → listed keys limit (rows ++ more) ≡ listed keys limit (others ++ more)
listed-append keys limit rows others more e =
    listed-swap keys limit rows more ∙ listed-more keys limit rows others more e ∙ sym (listed-swap keys limit others more)

-- ---- what a listing can list
-- rows that are listed alike have the same listings
pub can_list : (listing : StoredListing) (all : List Row) → listed listing.keys listing.limit all ≡ listed listing.keys listing.limit listing.rows → CanList listing all
can_list listing all e shown = (one_way all listing.rows e, one_way listing.rows all (sym e))
  where
    one_way : (rows others : List Row) → listed listing.keys listing.limit rows ≡ listed listing.keys listing.limit others
        → IsListing listing.keys listing.limit (once_each rows) shown → IsListing listing.keys listing.limit (once_each others) shown
    one_way rows others e h =
        (sorted_by (listing_cmp listing.keys) others, lists-sorted_by listing.keys others others (λ r. refl), one_listing listing.keys listing.limit (once_each rows) shown _ h (is_listing listing.keys listing.limit rows) ∙ e)

pub listed_alike : (listing : StoredListing) (all : List Row) → CanList listing all → listed listing.keys listing.limit all ≡ listed listing.keys listing.limit listing.rows
listed_alike listing all can =
    one_listing listing.keys listing.limit (once_each listing.rows) _ _ ((can (listed listing.keys listing.limit all)).0 (is_listing listing.keys listing.limit all)) (is_listing listing.keys listing.limit listing.rows)
