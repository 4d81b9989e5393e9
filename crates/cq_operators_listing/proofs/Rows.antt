-- The ranks of rows lead as the listing stands, so the first places by them list the rows.
use Rattle.std.proofs.Common.{◌≡◌, ◌<◌, ◌≤◌, ◌⊎◌, inl, inr, ℕ, zero, suc, ◌+◌, ◌^◌, false, List, [], ◌∷◌, ◌++◌, map, length, take, get_or, Option, None, refl, sym, ◌∙◌, ap, subst, arith, Ordering, Less, Equal, Greater, nat_cmp}
use Rattle.std.specs.Ordering.{is_gt, is_lt, ordering_reverse, ordering_then}
use Rattle.std.specs.List.{All, AllByRecursion, range_with_len}
use Rattle.std.specs.List.Sorted.{IsPermutation, IsSortedBy}
use Rattle.std.specs.Cmp.{IsTotalOrder}
use Rattle.std.proofs.lemmas.Bool.{cases_lt}
use Rattle.std.proofs.lemmas.Cmp.{on_total, then_total, nat_cmp_total}
use Rattle.std.proofs.lemmas.List.{append-nil, ext_get_or, get_or-map, length-append, length-map, map-append, take_all, take_at}
use Rattle.std.proofs.lemmas.List.Elements.{All-map, All-tail, All-take}
use Rattle.std.proofs.lemmas.List.FromFn.{get_or-map-range_with_len, get_or-range_with_len, length-map-range_with_len, length-range_with_len}
use Rattle.std.proofs.lemmas.List.Sorted.{All-permutation, IsPermutation-map, length_permutation}
use Rattle.cq_values.specs.Value.{Row, column}
use Rattle.cq_values.specs.Order.{row_cmp}
use Rattle.cq_model_bags.specs.declared.sort_key.SortKey.{SortKey}
use Rattle.cq_model_bags.specs.Bag.{once_each}
use Rattle.cq_model_bags.specs.Canonical.{sorted_by, with_row}
use Rattle.cq_model_bags.specs.Listing.{IsInOrder, IsListing, Lists, listing_cmp}
use Rattle.cq_model_bags.proofs.Canonicals.{all-with_row, in_order-sorted_by, times_in-append, times_in-sorted_by}
use Rattle.cq_model_bags.proofs.Listings.{listing_cmp_total, same_times, times_in}
use Rattle.cq_model_bags.proofs.Sorts.{SameBag-permutation, in_order-sorted}
use Rattle.cq_model_bags.proofs.Totals.{by_test}
use Rattle.cq_values_rows.specs.Columns.{AreBelow, row_or_none}
use Rattle.cq_operators_listing.specs.Merging.{AreFirst, are_from, comes_first}
use Rattle.cq_operators_listing.specs.Ranked.{TakesFirst, cmp_ranked, ranked}
use Rattle.cq_operators_listing.specs.declared.ranked.Ranked.{Ranked}
use Rattle.cq_operators_listing.specs.Ranks.{column_rank, key_rank, row_ranks}
use Rattle.cq_operators_listing.proofs.Sorting.{same_bag}
use Rattle.cq_operators_listing.proofs.Tellings.{Leads, led, value-small, directed-leads, directed-small, joined-leads}

-- ---- rows
column-small : (r : Row) (at : ℕ) → column_rank r at < 2 ^ 64
column-small [] at = omega arith
column-small (v ∷ r) zero = value-small v
column-small (v ∷ r) (suc at) = column-small r at

key-small : (k : SortKey) (r : Row) → key_rank k r < 2 ^ 64
key-small k r = directed-small k.descending _ (value-small (column r k.column))

-- what leads a first comparison leads those that follow it too
then-leads : (p q : ℕ) (o r : Ordering) → Leads p q o → Leads p q (ordering_then o r)
then-leads p q o r l = record {
  less = λ h. ap (λ (o : Ordering). ordering_then o r) (l.less h);
  greater = λ h. ap (λ (o : Ordering). ordering_then o r) (l.greater h);
}

-- without keys the first column is compared first
first-leads : (r s : Row) → Leads (column_rank r 0) (column_rank s 0) (row_cmp r s)
first-leads [] [] = record { less = λ h. absurd (omega (arith, h)); greater = λ h. absurd (omega (arith, h)) }
first-leads [] (w ∷ s) = record { less = λ h. refl; greater = λ h. absurd (omega (arith, h)) }
first-leads (v ∷ r) [] = record { less = λ h. absurd (omega (arith, h)); greater = λ h. refl }
first-leads (v ∷ r) (w ∷ s) = then-leads _ _ _ (row_cmp r s) (directed-leads false v w)

pub row-leads : (keys : List SortKey) (r s : Row) → Leads (row_ranks keys r) (row_ranks keys s) (listing_cmp keys r s)
row-leads [] [] [] = record { less = λ h. absurd (omega (arith, h)); greater = λ h. absurd (omega (arith, h)) }
row-leads [] [] (w ∷ s) = record { less = λ h. refl; greater = λ h. absurd (omega (arith, h)) }
row-leads [] (v ∷ r) [] = record { less = λ h. absurd (omega (arith, h)); greater = λ h. refl }
row-leads [] (v ∷ r) (w ∷ s) = joined-leads false v w _ _ (row_cmp r s) (column-small r 0) (column-small s 0) (first-leads r s)
row-leads (k ∷ []) r s =
    joined-leads k.descending (column r k.column) (column s k.column) _ _ (row_cmp r s) (column-small r 0) (column-small s 0) (first-leads r s)
row-leads (k ∷ l ∷ ks) r s =
    joined-leads k.descending (column r k.column) (column s k.column) _ _ (listing_cmp (l ∷ ks) r s) (key-small l r) (key-small l s)
    (then-leads _ _ _ (listing_cmp ks r s) (directed-leads l.descending (column r l.column) (column s l.column)))

-- ---- places with ranks
-- a place with the ranks that its row has
abbrev IsRankedFor : List SortKey → List Row → Ranked → Type 0
IsRankedFor keys rows p = p ≡ ranked keys rows p.place

pub cmp_ranked_total : (keys : List SortKey) (rows : List Row) → IsTotalOrder (cmp_ranked keys rows)
cmp_ranked_total keys rows =
    then_total (on_total (λ (p : Ranked). p.ranks) nat_cmp_total) (on_total (λ (p : Ranked). row_or_none rows p.place) (listing_cmp_total keys))

-- they compare as the rows
cmp_ranked-rows : (keys : List SortKey) (rows : List Row) (p q : Ranked) → IsRankedFor keys rows p → IsRankedFor keys rows q
    → cmp_ranked keys rows p q ≡ listing_cmp keys (row_or_none rows p.place) (row_or_none rows q.place)
cmp_ranked-rows keys rows p q e f =
    let r = row_or_none rows p.place in
    let s = row_or_none rows q.place in
    ap (λ (n : ℕ). ordering_then (nat_cmp n q.ranks) (listing_cmp keys r s)) (ap (λ (p : Ranked). p.ranks) e)
    ∙ ap (λ (n : ℕ). ordering_then (nat_cmp (row_ranks keys r) n) (listing_cmp keys r s)) (ap (λ (p : Ranked). p.ranks) f)
    ∙ led (row_ranks keys r) (row_ranks keys s) (listing_cmp keys r s) (row-leads keys r s)

-- the rows at places, and the places of all rows
abbrev pub rows_ranked : List Row → List Ranked → List Row
rows_ranked rows all = map (λ (p : Ranked). row_or_none rows p.place) all

pub row_at_place : (keys : List SortKey) (rows : List Row) (places : List ℕ) → rows_ranked rows (map (ranked keys rows) places) ≡ map (row_or_none rows) places
row_at_place keys rows [] = refl
row_at_place keys rows (p ∷ places) = ap (λ (rs : List Row). row_or_none rows p ∷ rs) (row_at_place keys rows places)

-- a list is what stands at each of its places
pub each_place : (rows : List Row) → map (row_or_none rows) (range_with_len 0 (length rows)) ≡ rows
each_place rows =
    let count = length-map-range_with_len (row_or_none rows) 0 (length rows) in
    ext_get_or [] (map (row_or_none rows) (range_with_len 0 (length rows))) rows count
    (λ k below. get_or-map-range_with_len (row_or_none rows) 0 (length rows) k k [] (omega (arith, below, count)) (omega arith))

-- places that are each there once
module _ (keys : List SortKey) (rows : List Row) (some : List Ranked) (moved : IsPermutation (are_from keys rows 0 (length rows)) some) where
  ranked_so : All (IsRankedFor keys rows) some
  ranked_so =
      All-permutation (IsRankedFor keys rows) _ _ moved (All-map (IsRankedFor keys rows) (ranked keys rows) (range_with_len 0 (length rows)) (λ i d h. refl))

  -- each is the place of a row
  below : All (λ p. p.place < length rows) some
  below = All-permutation (λ (p : Ranked). p.place < length rows) _ _ moved
      (All-map (λ (p : Ranked). p.place < length rows) (ranked keys rows) (range_with_len 0 (length rows))
      (λ i d h. let n : i < length rows = omega (arith, h, length-range_with_len 0 (length rows)) in omega (arith, n, get_or-range_with_len 0 (length rows) i d n)))

  -- and each row stands at one
  rows_moved : IsPermutation rows (rows_ranked rows some)
  rows_moved =
      subst (λ (rs : List Row). IsPermutation rs (rows_ranked rows some)) (row_at_place keys rows (range_with_len 0 (length rows)) ∙ each_place rows)
      (IsPermutation-map (λ (p : Ranked). row_or_none rows p.place) _ _ moved)

-- ---- lists of two parts
all-front : {X : Type 0} (P : X → Type 0) (xs ys : List X) → All P (xs ++ ys) → All P xs
all-front P xs ys all = subst (All P) (take_at xs ys (length xs) refl) (All-take P (length xs) (xs ++ ys) all)

all-behind : {X : Type 0} (P : X → Type 0) (xs ys : List X) → All P (xs ++ ys) → All P ys
all-behind P [] ys all = all
all-behind P (x ∷ xs) ys all = all-behind P xs ys (All-tail P x (xs ++ ys) all)

all_rows-append : (P : Row → Type 0) (xs ys : List Row) → AllByRecursion P xs → AllByRecursion P ys → AllByRecursion P (xs ++ ys)
all_rows-append P [] ys p q = q
all_rows-append P (x ∷ xs) ys p q = (p.0, all_rows-append P xs ys p.1 q)

-- rows in order, none of them behind others that are in order too
in_order-append : (cmp : Row → Row → Ordering) (xs ys : List Row) → IsInOrder cmp xs → IsInOrder cmp ys → AllByRecursion (λ r. AllByRecursion (λ s. is_gt (cmp r s) ≡ false) ys) xs → IsInOrder cmp (xs ++ ys)
in_order-append cmp [] ys p q before = q
in_order-append cmp (x ∷ xs) ys p q before = (all_rows-append (λ s. is_gt (cmp x s) ≡ false) xs ys p.0 before.0, in_order-append cmp xs ys p.1 q before.1)

all-sorted_by : (P : Row → Type 0) (cmp : Row → Row → Ordering) (rows : List Row) → AllByRecursion P rows → AllByRecursion P (sorted_by cmp rows)
all-sorted_by P cmp [] all = tt
all-sorted_by P cmp (r ∷ rows) all = all-with_row P cmp r (sorted_by cmp rows) all.0 (all-sorted_by P cmp rows all.1)

length-with_row : (cmp : Row → Row → Ordering) (r : Row) (rows : List Row) → length (with_row cmp r rows) ≡ suc (length rows)
length-with_row cmp r [] = refl
length-with_row cmp r (s ∷ rows) = by_test (is_gt (cmp r s)) (λ k. rw k (ap suc (length-with_row cmp r rows))) (λ k. rw k refl)

length-sorted_by : (cmp : Row → Row → Ordering) (rows : List Row) → length (sorted_by cmp rows) ≡ length rows
length-sorted_by cmp [] = refl
length-sorted_by cmp (r ∷ rows) = length-with_row cmp r (sorted_by cmp rows) ∙ ap suc (length-sorted_by cmp rows)

turned_back : (o : Ordering) → is_lt o ≡ false → is_gt (ordering_reverse o) ≡ false
turned_back Less h = absurd (cc h)
turned_back Equal h = refl
turned_back Greater h = refl

-- ---- the first places
module _ (keys : List SortKey) (rows : List Row) (count : ℕ) (first : List Ranked) (least : AreFirst keys rows count first) where
  abbrev row : Ranked → Row
  row p = row_or_none rows p.place

  abbrev left : List Ranked
  left = least.2

  abbrev front : List Row
  front = rows_ranked rows first

  -- the other rows are put in order behind them
  abbrev behind : List Row
  behind = sorted_by (listing_cmp keys) (rows_ranked rows left)

  all_so : All (IsRankedFor keys rows) (first ++ left)
  all_so = ranked_so keys rows (first ++ left) least.3

  -- each is the place of a row
  pub first_below : All (λ p. p.place < length rows) first
  first_below = all-front (λ (p : Ranked). p.place < length rows) first left (below keys rows (first ++ left) least.3)

  front_sorted : IsSortedBy (λ x y. is_lt (listing_cmp keys x y)) front
  front_sorted k d low high =
      let e : Ranked = ranked keys rows 0 in
      let so = all-front (IsRankedFor keys rows) first left all_so in
      let within : k + 1 < length first = subst (λ (n : ℕ). k + 1 < n) (length-map first row) high in
      let here : k < length first = omega (arith, within) in
      ap (λ (r : Row). is_lt (listing_cmp keys r (get_or front k d))) (get_or-map row first (k + 1) e d within)
      ∙ ap (λ (r : Row). is_lt (listing_cmp keys (row (get_or first (k + 1) e)) r)) (get_or-map row first k e d here)
      ∙ ap is_lt (sym (cmp_ranked-rows keys rows (get_or first (k + 1) e) (get_or first k e) (so (k + 1) e within) (so k e here)))
      ∙ least.0 k e low within

  -- a row that is left does not stand before one of the first
  not_before : (z r : Ranked) → IsRankedFor keys rows z → IsRankedFor keys rows r → comes_first keys rows z r ≡ false → is_gt (listing_cmp keys (row r) (row z)) ≡ false
  not_before z r so to h =
      ap is_gt ((listing_cmp_total keys).antisymm (row r) (row z)) ∙ turned_back (listing_cmp keys (row z) (row r)) (ap is_lt (sym (cmp_ranked-rows keys rows z r so to)) ∙ h)

  each_row : (P : Row → Type 0) (some : List Ranked) → All (λ p. P (row p)) some → AllByRecursion P (rows_ranked rows some)
  each_row P [] all = tt
  each_row P (p ∷ some) all = (all 0 p (omega arith), each_row P some (All-tail (λ p. P (row p)) p some all))

  front_first : AllByRecursion (λ r. AllByRecursion (λ s. is_gt (listing_cmp keys r s) ≡ false) behind) front
  front_first = each_row (λ r. AllByRecursion (λ s. is_gt (listing_cmp keys r s) ≡ false) behind) first (λ i d h.
      let r = get_or first i d in
      all-sorted_by (λ s. is_gt (listing_cmp keys (row r) s) ≡ false) (listing_cmp keys) (rows_ranked rows left)
      (each_row (λ s. is_gt (listing_cmp keys (row r) s) ≡ false) left (λ j e k.
      not_before (get_or left j e) r (all-behind (IsRankedFor keys rows) first left all_so j e k) (all-front (IsRankedFor keys rows) first left all_so i d h) (least.5 j e k i d h))))

  times : (r : Row) → times_in r (front ++ behind) ≡ times_in r rows
  times r =
      let parts : rows_ranked rows (first ++ left) ≡ front ++ rows_ranked rows left = map-append row first left in
      let moved = same_times (rows_ranked rows (first ++ left)) rows (SameBag-permutation rows (rows_ranked rows (first ++ left)) (rows_moved keys rows (first ++ left) least.3)) r in
      times_in-append front behind r
      ∙ ap (λ (n : ℕ). times_in r front + n) (times_in-sorted_by (listing_cmp keys) (rows_ranked rows left) r)
      ∙ sym (times_in-append front (rows_ranked rows left) r)
      ∙ sym (ap (times_in r) parts)
      ∙ moved

  lists : Lists keys (once_each rows) (front ++ behind)
  lists = record {
    same = same_bag (front ++ behind) rows times;
    in_order = in_order-append (listing_cmp keys) front behind (in_order-sorted (listing_cmp_total keys) front front_sorted)
        (in_order-sorted_by (listing_cmp_total keys) (rows_ranked rows left)) front_first;
  }

  whole_long : length (front ++ behind) ≡ length rows
  whole_long =
      let all = length_permutation _ _ (rows_moved keys rows (first ++ left) least.3) in
      omega (
        arith,
        length-append front behind,
        length-sorted_by (listing_cmp keys) (rows_ranked rows left),
        ap length (map-append row first left),
        length-append front (rows_ranked rows left),
        all,
      )

  taken : take count (front ++ behind) ≡ front
  taken = at (cases_lt (length first) count)
    where
      at : (length first < count) ⊎ (count ≤ length first) → take count (front ++ behind) ≡ front
      at (inl few) =
          let none : front ++ behind ≡ front = ap (λ (ps : List Ranked). front ++ sorted_by (listing_cmp keys) (rows_ranked rows ps)) (least.4 few) ∙ append-nil front in
          ap (take count) none ∙ take_all count front (omega (arith, few, length-map first row))
      at (inr all) = take_at front behind count (omega (arith, all, least.1, length-map first row))

  -- as many rows as LIMIT leaves
  pub listing-first : (limit : Option ℕ) → TakesFirst limit (length rows) count → IsListing keys limit (once_each rows) front
  listing-first limit leaves = (front ++ behind, lists, sym (leaves (front ++ behind) whole_long ∙ taken))

-- the places are those of rows
pub places_below : (len : ℕ) (some : List Ranked) → All (λ p. p.place < len) some → AreBelow len (map (λ (p : Ranked). p.place) some)
places_below len [] all = tt
places_below len (p ∷ some) all = (all 0 p (omega arith), places_below len some (All-tail (λ (p : Ranked). p.place < len) p some all))

-- the rows at the places
pub rows_at_places : (rows : List Row) (some : List Ranked) → map (row_or_none rows) (map (λ (p : Ranked). p.place) some) ≡ rows_ranked rows some
rows_at_places rows [] = refl
rows_at_places rows (p ∷ some) = ap (λ (rs : List Row). row_or_none rows p.place ∷ rs) (rows_at_places rows some)

-- without LIMIT all rows are left
pub takes-none : (len : ℕ) → TakesFirst None len len
takes-none len rows e = sym (take_all len rows (omega (arith, e)))
