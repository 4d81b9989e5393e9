-- A bag has one listing.
use Rattle.std.proofs.Common.{◌≡◌, ℕ, ◌+◌, ◌<◌, pos, Bool, true, false, cond, List, [], ◌∷◌, refl, sym, ◌∙◌, ap, arith, subst, Ordering, Less, Equal, Greater, Option}
use Rattle.std.specs.List.{AllByRecursion}
use Rattle.std.specs.Ordering.{is_gt, ordering_reverse}
use Rattle.std.specs.Cmp.{IsTotalOrder}
use Rattle.std.specs.FinMap.{IsAntisymmetric}
use Rattle.std.proofs.lemmas.Cmp.{tied_itself, on_total, then_total, back_total}
use Rattle.cq_values.specs.declared.value.Value.TheVariants.{Null}
use Rattle.cq_values.specs.Value.{Row}
use Rattle.cq_values.specs.Order.{same_row}
use Rattle.cq_values.specs.Keys.{value_cmp_total, row_cmp_total, row_cmp_same, same_row-refl, same_row-same, then_both}
use Rattle.std.proofs.Common.{get_or}
use Rattle.cq_model_bags.specs.declared.sort_key.SortKey.{SortKey}
use Rattle.cq_model_bags.specs.Bag.{Weighted, weight_of, SameBag, once_each}
use Rattle.cq_model_bags.specs.Listing.{directed, listing_cmp, IsInOrder, Lists, IsListing, first_rows}
use Rattle.cq_model_bags.proofs.Totals.{by_test}

-- ---- the order is total, and only equal rows tie
directed_total : (descending : Bool) → IsTotalOrder (directed descending)
directed_total false = value_cmp_total
directed_total true = back_total value_cmp_total

pub listing_cmp_total : (keys : List SortKey) → IsTotalOrder (listing_cmp keys)
listing_cmp_total [] = row_cmp_total
listing_cmp_total (k ∷ ks) = then_total (on_total (λ (r : Row). get_or r k.column Null) (directed_total k.descending)) (listing_cmp_total ks)

pub listing_cmp_same : (keys : List SortKey) → IsAntisymmetric (listing_cmp keys)
listing_cmp_same [] r s e = row_cmp_same r s e
listing_cmp_same (k ∷ ks) r s e = listing_cmp_same ks r s (then_both (directed k.descending (get_or r k.column Null) (get_or s k.column Null)) (listing_cmp ks r s) e).1

-- ---- how often a row is listed
abbrev pub times_in : Row → List Row → ℕ
times_in r [] = 0
times_in r (s ∷ rows) = cond (same_row s r) 1 0 + times_in r rows

pub weight_of-once_each : (rows : List Row) (r : Row) → weight_of (once_each rows) r ≡ pos (times_in r rows)
weight_of-once_each [] r = refl
weight_of-once_each (s ∷ rows) r = by_test (same_row s r) (λ k. rw (k, weight_of-once_each rows r) refl) (λ k. rw (k, weight_of-once_each rows r) refl)

pub same_times : (xs ys : List Row) → SameBag (once_each xs) (once_each ys) → (r : Row) → times_in r xs ≡ times_in r ys
same_times xs ys s r = let e : pos (times_in r xs) ≡ pos (times_in r ys) = sym (weight_of-once_each xs r) ∙ s.at r ∙ weight_of-once_each ys r in cc

-- a row that is listed has what each has
among : (P : Row → Type 0) (rows : List Row) → AllByRecursion P rows → (r : Row) → 0 < times_in r rows → P r
among P [] all r h = absurd (omega arith)
among P (s ∷ rows) all r h = by_test (same_row s r)
    (λ k. subst P (same_row-same s r k) all.0)
    (λ k. let u = rw k at h in let t : 0 < times_in r rows = omega arith in among P rows all.1 r t)

first_there : (r : Row) (rows : List Row) → 0 < times_in r (r ∷ rows)
first_there r rows = rw (same_row-refl r) (omega arith)

-- what is after another is not before it
pub after_other : {X : Type 0} {cmp : X → X → Ordering} (o : IsTotalOrder cmp) (r s : X) → is_gt (cmp r s) ≡ true → is_gt (cmp s r) ≡ false
after_other {X} {cmp} o r s h = ap is_gt (o.antisymm s r) ∙ not_both (cmp r s) h
  where
    not_both : (p : Ordering) → is_gt p ≡ true → is_gt (ordering_reverse p) ≡ false
    not_both Less k = absurd (cc)
    not_both Equal k = refl
    not_both Greater k = refl

-- and what is neither after nor before it ties
pub not_after : {X : Type 0} {cmp : X → X → Ordering} (o : IsTotalOrder cmp) (r s : X) → is_gt (cmp r s) ≡ false → is_gt (cmp s r) ≡ false → cmp r s ≡ Equal
not_after {X} {cmp} o r s p q = both_not (cmp r s) p (sym (ap is_gt (o.antisymm s r)) ∙ q)
  where
    both_not : (p : Ordering) → is_gt p ≡ false → is_gt (ordering_reverse p) ≡ false → p ≡ Equal
    both_not Less h k = absurd (cc)
    both_not Equal h k = refl
    both_not Greater h k = absurd (cc)

-- ---- two lists in one order, with each row as often, are one
pub one_order : {cmp : Row → Row → Ordering} → IsTotalOrder cmp → IsAntisymmetric cmp → (xs ys : List Row) → IsInOrder cmp xs → IsInOrder cmp ys → ((r : Row) → times_in r xs ≡ times_in r ys) → xs ≡ ys
one_order o same [] [] p q t = refl
one_order o same [] (y ∷ ys) p q t = absurd (omega (arith, first_there y ys, t y))
one_order o same (x ∷ xs) [] p q t = absurd (omega (arith, first_there x xs, t x))
one_order {cmp} o same (x ∷ xs) (y ∷ ys) p q t =
    let y_first = among (λ z. is_gt (cmp y z) ≡ false) (y ∷ ys) (ap is_gt (tied_itself o y), q.0) x (subst (λ n. 0 < n) (t x) (first_there x xs)) in
    let x_first = among (λ z. is_gt (cmp x z) ≡ false) (x ∷ xs) (ap is_gt (tied_itself o x), p.0) y (subst (λ n. 0 < n) (sym (t y)) (first_there y ys)) in
    let e : x ≡ y = same x y (not_after o x y x_first y_first) in
    let rest : (r : Row) → times_in r xs ≡ times_in r ys = λ r. let u = ap {B = ℕ} (λ z. cond (same_row z r) 1 0) e in omega (arith, u, t r) in
    λ i. e i ∷ one_order o same xs ys p.1 q.1 rest i

-- a bag has one list in this order
pub one_list : (keys : List SortKey) (bag : Weighted) (xs ys : List Row) → Lists keys bag xs → Lists keys bag ys → xs ≡ ys
one_list keys bag xs ys p q =
    one_order (listing_cmp_total keys) (listing_cmp_same keys) xs ys p.in_order q.in_order
    (same_times xs ys (record { at = λ r. p.same.at r ∙ sym (q.same.at r) }))

pub one_listing : (keys : List SortKey) (limit : Option ℕ) (bag : Weighted) (xs ys : List Row) → IsListing keys limit bag xs → IsListing keys limit bag ys → xs ≡ ys
one_listing keys limit bag xs ys p q = p.2 ∙ ap (first_rows limit) (one_list keys bag p.0 q.0 p.1 q.1) ∙ sym q.2
