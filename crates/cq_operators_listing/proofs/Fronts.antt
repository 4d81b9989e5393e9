-- Rows that stand behind as many others as LIMIT allows.
use Rattle.std.proofs.Common.{◌≡◌, ℕ, zero, suc, ◌-◌, ◌≤◌, ◌<◌, Bool, true, false, List, [], ◌∷◌, ◌++◌, map, filter, take, drop, length, get_or, refl, sym, ◌∙◌, ap, subst, arith, Ordering, Option, Some, None}
use Rattle.std.specs.Prelude.{IfSome}
use Rattle.std.specs.List.{AllByRecursion}
use Rattle.std.specs.Ordering.{is_gt}
use Rattle.std.specs.Cmp.{IsTotalOrder}
use Rattle.std.proofs.lemmas.Cmp.{upto, tied_itself}
use Rattle.std.proofs.lemmas.List.{append_assoc, get_or_default, length-append, length-take-le, take-append-drop, take-append-le, take-take}
use Rattle.cq_values.specs.Value.{Row}
use Rattle.cq_values_rows.specs.Columns.{row_or_none}
use Rattle.cq_model_bags.specs.declared.sort_key.SortKey.{SortKey}
use Rattle.cq_model_bags.specs.Bag.{Weighted, once_each}
use Rattle.cq_model_bags.specs.Canonical.{with_row, sorted_by}
use Rattle.cq_model_bags.specs.Listing.{IsInOrder, IsListing, first_rows, listing_cmp}
use Rattle.cq_model_bags.proofs.Totals.{by_test}
use Rattle.cq_model_bags.proofs.Listings.{listing_cmp_total, one_list, one_listing, after_other}
use Rattle.cq_operators_listing.specs.Stored.{StoredListing, CanList, Suffice, TakesIn, kept_for, with_rows}
use Rattle.cq_model.specs.declared.query.Order.{Order}
use Rattle.cq_operators_listing.specs.Front.{IsFront, IsWorst}
use Rattle.cq_operators_listing.proofs.Sorting.{listed, listed-swap, listed-append, is_listing, lists-sorted_by, can_list, listed_alike}
use Rattle.cq_model_bags.proofs.Lists.{all-at, all-take}

-- ---- the first rows of a list in order
in_order-take : (cmp : Row → Row → Ordering) (n : ℕ) (rows : List Row) → IsInOrder cmp rows → IsInOrder cmp (take n rows)
in_order-take cmp zero rows p = tt
in_order-take cmp (suc n) [] p = tt
in_order-take cmp (suc n) (r ∷ rows) p = (all-take (λ s. is_gt (cmp r s) ≡ false) n rows p.0, in_order-take cmp n rows p.1)

-- no row up to a place stands behind the row there
before-last : {cmp : Row → Row → Ordering} (o : IsTotalOrder cmp) (rows : List Row) (i : ℕ) (d : Row) → i < length rows → IsInOrder cmp rows
    → AllByRecursion (λ r. is_gt (cmp r (get_or rows i d)) ≡ false) (take (suc i) rows)
before-last o [] i d h p = absurd (omega arith)
before-last o (r ∷ rows) zero d h p = (ap is_gt (tied_itself o r), tt)
before-last {cmp} o (r ∷ rows) (suc i) d h p = (all-at (λ s. is_gt (cmp r s) ≡ false) rows i d (omega arith) p.0, before-last o rows i d (omega arith) p.1)

-- the rows in front, in order, are listed as they are
listed-in_order : (keys : List SortKey) (limit : Option ℕ) (rows : List Row) → IsInOrder (listing_cmp keys) rows → listed keys limit rows ≡ first_rows limit rows
listed-in_order keys limit rows p =
    ap (first_rows limit) (one_list keys (once_each rows) _ rows (lists-sorted_by keys rows rows (λ r. refl)) (record { same = record { at = λ r. refl }; in_order = p }))

-- the first rows are listed as all are
pub listed-first : (keys : List SortKey) (n : ℕ) (rows shown : List Row) → IsListing keys (Some n) (once_each rows) shown → listed keys (Some n) rows ≡ listed keys (Some n) shown
listed-first keys n rows shown h =
    let all = h.0 in
    let part : listed keys (Some n) (take n all) ≡ take n all =
    listed-in_order keys (Some n) (take n all) (in_order-take (listing_cmp keys) n all h.1.in_order) ∙ take-take n n all (omega arith) in
    one_listing keys (Some n) (once_each rows) _ shown (is_listing keys (Some n) rows) h ∙ h.2 ∙ sym part ∙ ap (listed keys (Some n)) (sym h.2)

-- and stand in order
pub in_order-first : (keys : List SortKey) (n : ℕ) (bag : Weighted) (shown : List Row) → IsListing keys (Some n) bag shown → IsInOrder (listing_cmp keys) (take n shown)
in_order-first keys n bag shown h =
    in_order-take (listing_cmp keys) n shown (subst (IsInOrder (listing_cmp keys)) (sym h.2) (in_order-take (listing_cmp keys) n h.0 h.1.in_order))

-- ---- lists with enough rows that do not stand behind one
abbrev IsFull : (Row → Row → Ordering) → Row → ℕ → List Row → Type 0
IsFull cmp w zero rows = Unit {0}
IsFull cmp w (suc n) [] = zero ≡ suc zero
IsFull cmp w (suc n) (r ∷ rows) = (is_gt (cmp r w) ≡ false) × IsFull cmp w n rows

full-less : (cmp : Row → Row → Ordering) (w : Row) (n : ℕ) (rows : List Row) → IsFull cmp w (suc n) rows → IsFull cmp w n rows
full-less cmp w zero rows f = tt
full-less cmp w (suc n) [] f = absurd (omega (arith, f))
full-less cmp w (suc n) (r ∷ rows) f = (f.0, full-less cmp w n rows f.1)

-- one that does not stand behind it, more
full-more : {cmp : Row → Row → Ordering} (o : IsTotalOrder cmp) (w r : Row) (n : ℕ) (rows : List Row) → is_gt (cmp r w) ≡ false → IsFull cmp w n rows → IsFull cmp w (suc n) (with_row cmp r rows)
full-more o w r zero [] h f = (h, tt)
full-more o w r (suc n) [] h f = absurd (omega (arith, f))
full-more {cmp} o w r zero (s ∷ rows) h f = by_test (is_gt (cmp r s))
    (λ k. rw k (upto o s r w (after_other o r s k) h, tt))
    (λ k. rw k (h, tt))
full-more {cmp} o w r (suc n) (s ∷ rows) h f = by_test (is_gt (cmp r s))
    (λ k. rw k (f.0, full-more o w r n rows h f.1))
    (λ k. rw k (h, f))

-- any one more
full-with_row : {cmp : Row → Row → Ordering} (o : IsTotalOrder cmp) (w r : Row) (n : ℕ) (rows : List Row) → IsFull cmp w n rows → IsFull cmp w n (with_row cmp r rows)
full-with_row o w r zero rows f = tt
full-with_row o w r (suc n) [] f = absurd (omega (arith, f))
full-with_row {cmp} o w r (suc n) (s ∷ rows) f = by_test (is_gt (cmp r s))
    (λ k. rw k (f.0, full-with_row o w r n rows f.1))
    (λ k. rw k (upto o r s w k f.0, full-less cmp w n (s ∷ rows) f))

full-rows : {cmp : Row → Row → Ordering} (o : IsTotalOrder cmp) (w : Row) (rows : List Row) → AllByRecursion (λ r. is_gt (cmp r w) ≡ false) rows → IsFull cmp w (length rows) (sorted_by cmp rows)
full-rows o w [] all = tt
full-rows {cmp} o w (r ∷ rows) all = full-more o w r (length rows) (sorted_by cmp rows) all.0 (full-rows o w rows all.1)

full-append : {cmp : Row → Row → Ordering} (o : IsTotalOrder cmp) (w : Row) (n : ℕ) (more rows : List Row) → IsFull cmp w n (sorted_by cmp rows) → IsFull cmp w n (sorted_by cmp (more ++ rows))
full-append o w n [] rows f = f
full-append {cmp} o w n (r ∷ more) rows f = full-with_row o w r n (sorted_by cmp (more ++ rows)) (full-append o w n more rows f)

-- a row behind it is not among the first
take-behind : {cmp : Row → Row → Ordering} (o : IsTotalOrder cmp) (w r : Row) (n : ℕ) (rows : List Row) → is_gt (cmp r w) ≡ true → IsFull cmp w n rows → take n (with_row cmp r rows) ≡ take n rows
take-behind o w r zero rows h f = refl
take-behind o w r (suc n) [] h f = absurd (omega (arith, f))
take-behind {cmp} o w r (suc n) (s ∷ rows) h f = by_test (is_gt (cmp r s))
    (λ k. rw k (ap (λ (rs : List Row). s ∷ rs) (take-behind o w r n rows h f.1)))
    (λ k. let e = upto o r s w k f.0 in absurd (cc (sym h ∙ e)))

-- ---- rows that a listing need not keep
longer-append : (rows more : List Row) (n : ℕ) → n ≤ length rows → n ≤ length (rows ++ more)
longer-append [] more n h = omega arith
longer-append (r ∷ rows) more zero h = omega arith
longer-append (r ∷ rows) more (suc n) h = let e = longer-append rows more n (omega arith) in omega (arith, e)

-- enough rows do not stand behind this one
abbrev pub HasWorst : List SortKey → ℕ → List Row → Row → Type 0
HasWorst keys n rows w = (n ≤ length rows) × AllByRecursion (λ r. is_gt (listing_cmp keys r w) ≡ false) (take n rows)

has_worst-push : (keys : List SortKey) (n : ℕ) (rows more : List Row) (w : Row) → HasWorst keys n rows w → HasWorst keys n (rows ++ more) w
has_worst-push keys n rows more w h =
    let longer : n ≤ length (rows ++ more) = longer-append rows more n h.0 in
    (longer, subst (AllByRecursion (λ r. is_gt (listing_cmp keys r w) ≡ false)) (sym (take-append-le n rows more h.0)) h.1)

full-kept : (keys : List SortKey) (n : ℕ) (rows : List Row) (w : Row) → HasWorst keys n rows w → IsFull (listing_cmp keys) w n (sorted_by (listing_cmp keys) rows)
full-kept keys n rows w h =
    let cmp = listing_cmp keys in
    let o = listing_cmp_total keys in
    let front : IsFull cmp w n (sorted_by cmp (take n rows)) = subst (λ (k : ℕ). IsFull cmp w k (sorted_by cmp (take n rows))) (length-take-le n rows h.0) (full-rows o w (take n rows) h.1) in
    let all : IsFull cmp w n (sorted_by cmp (drop n rows ++ take n rows)) = full-append o w n (drop n rows) (take n rows) front in
    subst (IsFull cmp w n) (listed-swap keys None (drop n rows) (take n rows) ∙ ap (sorted_by cmp) (take-append-drop n rows)) all

listed-behind : (keys : List SortKey) (n : ℕ) (rows : List Row) (w r : Row) → HasWorst keys n rows w → is_gt (listing_cmp keys r w) ≡ true → listed keys (Some n) (rows ++ r ∷ []) ≡ listed keys (Some n) rows
listed-behind keys n rows w r h behind =
    listed-swap keys (Some n) rows (r ∷ []) ∙ take-behind (listing_cmp_total keys) w r n (sorted_by (listing_cmp keys) rows) behind (full-kept keys n rows w h)

-- of images of places only some are kept
listed-kept : (keys : List SortKey) (n : ℕ) (w : Row) (f : ℕ → Row) (keep : ℕ → Bool) → ((p : ℕ) → keep p ≡ false → is_gt (listing_cmp keys (f p) w) ≡ true)
    → (places : List ℕ) (rows : List Row) → HasWorst keys n rows w → listed keys (Some n) (rows ++ map f places) ≡ listed keys (Some n) (rows ++ map f (filter keep places))
listed-kept keys n w f keep behind [] rows h = refl
listed-kept keys n w f keep behind (p ∷ places) rows h = by_test (keep p)
    (λ k. rw k (
    ap (listed keys (Some n)) (sym (append_assoc rows (f p ∷ []) (map f places)))
    ∙ listed-kept keys n w f keep behind places (rows ++ f p ∷ []) (has_worst-push keys n rows (f p ∷ []) w h)
    ∙ ap (listed keys (Some n)) (append_assoc rows (f p ∷ []) (map f (filter keep places)))))
    (λ k. rw k (
    ap (listed keys (Some n)) (sym (append_assoc rows (f p ∷ []) (map f places)))
    ∙ listed-append keys (Some n) (rows ++ f p ∷ []) rows (map f places) (listed-behind keys n rows w (f p) h (behind p k))
    ∙ listed-kept keys n w f keep behind places rows h))

-- ---- what suffices
suffice : (listing : StoredListing) (kept more : List Row) → listed listing.keys listing.limit (listing.rows ++ more) ≡ listed listing.keys listing.limit (listing.rows ++ kept) → Suffice listing kept more
suffice listing kept more e all can =
    can_list (with_rows listing kept) (all ++ more) (listed-append listing.keys listing.limit all listing.rows more (listed_alike listing all can) ∙ e)

-- all rows suffice
pub suffice-all : (listing : StoredListing) (more : List Row) → Suffice listing more more
suffice-all listing more = suffice listing more more refl

-- those of the places where the row does not stand behind the worst
pub suffice-kept : (listing : StoredListing) (w : Row) (f : ℕ → Row) (keep : ℕ → Bool) (places : List ℕ) → IsWorst listing w
    → ((p : ℕ) → keep p ≡ false → is_gt (listing_cmp listing.keys (f p) w) ≡ true) → Suffice listing (map f (filter keep places)) (map f places)
suffice-kept listing w f keep places worst behind =
    suffice listing (map f (filter keep places)) (map f places)
    (subst (λ (limit : Option ℕ). listed listing.keys limit (listing.rows ++ map f places) ≡ listed listing.keys limit (listing.rows ++ map f (filter keep places)))
    (sym worst.limit) (listed-kept listing.keys worst.count w f keep behind places listing.rows (worst.enough, worst.before)))

-- the last of the rows in front is a worst one
is_worst : (listing : StoredListing) (count i : ℕ) (w : Row) → count ≡ suc i → w ≡ get_or listing.rows i w → IsFront listing count → IsWorst listing w
is_worst listing count i w n read front =
    let long : take (suc i) (take count listing.rows) ≡ take count listing.rows = ap (λ (m : ℕ). take m (take count listing.rows)) (sym n) ∙ take-take count count listing.rows (omega arith) in
    let size : length (take count listing.rows) ≡ count = length-take-le count listing.rows front.enough in
    let last : AllByRecursion (λ r. is_gt (listing_cmp listing.keys r (get_or (take count listing.rows) i w)) ≡ false) (take (suc i) (take count listing.rows)) =
    before-last (listing_cmp_total listing.keys) (take count listing.rows) i w (omega (arith, size, n)) front.in_order in
    let is : get_or (take count listing.rows) i w ≡ w = ap (λ (m : ℕ). get_or (take m listing.rows) i w) n ∙ get_or-take listing.rows i w ∙ sym read in
    record {
      count = count;
      limit = front.limit;
      enough = front.enough;
      before = subst (λ (v : Row). AllByRecursion (λ r. is_gt (listing_cmp listing.keys r v) ≡ false) (take count listing.rows)) is
          (subst (AllByRecursion (λ r. is_gt (listing_cmp listing.keys r (get_or (take count listing.rows) i w)) ≡ false)) long last);
    }
  where
    get_or-take : (rows : List Row) (i : ℕ) (d : Row) → get_or (take (suc i) rows) i d ≡ get_or rows i d
    get_or-take [] i d = refl
    get_or-take (r ∷ rows) zero d = refl
    get_or-take (r ∷ rows) (suc i) d = get_or-take rows i d

pub worst_of : (listing : StoredListing) (count : ℕ) (w : Row) → 0 < count → w ≡ row_or_none listing.rows (count - 1) → IsFront listing count → IsWorst listing w
worst_of listing count w h at front =
    is_worst listing count (count - 1) w (omega (arith, h)) (at ∙ get_or_default listing.rows (count - 1) [] w (omega (arith, h, front.enough))) front

-- the rows in front, where so many are told
pub front_of : (listing : StoredListing) (front : Option ℕ) (count : ℕ) → front ≡ Some count → IfSome front (IsFront listing) → IsFront listing count
front_of listing front count e h = subst (λ (o : Option ℕ). IfSome o (IsFront listing)) e h

-- rows behind others leave the rows in front as they are
pub front_behind : (order : Order) (front : Option ℕ) (rows more all : List Row) → all ≡ rows ++ more → IfSome front (IsFront (kept_for order rows)) → IfSome front (IsFront (kept_for order all))
front_behind order None rows more all e h = tt
front_behind order (Some n) rows more all e h =
    subst (λ (rs : List Row). IsFront (kept_for order rs) n) (sym e) (record {
      limit = h.limit;
      enough = omega (arith, h.enough, length-append rows more);
      in_order = subst (IsInOrder (listing_cmp order.keys)) (sym (take-append-le n rows more h.enough)) h.in_order;
    })

-- and where so many are there
pub front_where : (listing : StoredListing) (front : Option ℕ) (count len : ℕ) → IfSome front (λ n. (n ≡ count) × (count ≤ len)) → (count ≤ len → IsFront listing count)
    → IfSome front (IsFront listing)
front_where listing None count len h front = tt
front_where listing (Some n) count len h front = subst (IsFront listing) (sym h.0) (front h.1)

-- ---- a cut
-- the first rows alone list as all did
pub can_list-cut : (old new : StoredListing) (n : ℕ) → new.keys ≡ old.keys → new.limit ≡ old.limit → old.limit ≡ Some n
    → IsListing old.keys (Some n) (once_each old.rows) new.rows → (all : List Row) → CanList old all → CanList new all
can_list-cut old new n k l is h all can =
    let e : record old { rows = new.rows } ≡ new = λ i. record { keys = sym k i; limit = sym l i; rows = new.rows } in
    let same : listed old.keys old.limit old.rows ≡ listed old.keys old.limit new.rows =
    subst (λ (limit : Option ℕ). listed old.keys limit old.rows ≡ listed old.keys limit new.rows) (sym is) (listed-first old.keys n old.rows new.rows h) in
    subst (λ (s : StoredListing). CanList s all) e (can_list (record old { rows = new.rows }) all (listed_alike old all can ∙ same))

-- ---- more rows
-- rows that suffice are put behind, and the listing may be cut
pub takes_in : (old mid new : StoredListing) (kept more : List Row) → mid.keys ≡ old.keys → mid.limit ≡ old.limit → mid.rows ≡ old.rows ++ kept
    → Suffice old kept more → ((all : List Row) → CanList mid all → CanList new all) → TakesIn old new more
takes_in old mid new kept more k l r s cut all can =
    let e : with_rows old kept ≡ mid = λ i. record { keys = sym k i; limit = sym l i; rows = sym r i } in
    cut (all ++ more) (subst (λ (m : StoredListing). CanList m (all ++ more)) e (s all can))

-- what is listed of the kept rows is listed of all
pub lists_kept : (s : StoredListing) (keys : List SortKey) (limit : Option ℕ) (rows shown : List Row) → keys ≡ s.keys → limit ≡ s.limit → rows ≡ s.rows
    → IsListing keys limit (once_each rows) shown → (all : List Row) → CanList s all → IsListing s.keys s.limit (once_each all) shown
lists_kept s keys limit rows shown k l r h all can =
    let e : record s { keys = keys; limit = limit; rows = rows } ≡ s = λ i. record { keys = k i; limit = l i; rows = r i } in
    (can shown).1 (subst (λ (t : StoredListing). IsListing t.keys t.limit (once_each t.rows) shown) e h)
