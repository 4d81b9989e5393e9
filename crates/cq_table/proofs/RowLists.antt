-- Lists of rows: what all of them have, in any order.
use Rattle.std.proofs.Common.{◌≡◌, ℕ, ◌<◌, ◌≤◌, Bool, List, [], ◌∷◌, take, drop, length, sym, subst, ap, ◌∙◌, arith, Ordering}
use Rattle.std.specs.Prelude.{filter, min, nat_lt}
use Rattle.std.proofs.lemmas.Bool.{ltb-false, ltb-true}
use Rattle.std.proofs.lemmas.List.{drop_all, take_all}
use Rattle.std.specs.List.{AllByRecursion}
use Rattle.std.specs.Ordering.{is_gt}
use Rattle.cq_values.specs.Order.{row_cmp}
use Rattle.cq_values.specs.Value.{Row}
use Rattle.cq_model_bags.specs.Canonical.{bag_of, with_row, sorted_by}
use Rattle.cq_model_bags.proofs.Totals.{by_test}
use Rattle.cq_model_bags.proofs.Lists.{all-both, all-of}
use Rattle.cq_model_bags.proofs.Canonicals.{all-with_row}

module _ (P : Row → Type 0) where
  all_of_sorted : (cmp : Row → Row → Ordering) (rows : List Row) → AllByRecursion P rows → AllByRecursion P (sorted_by cmp rows)
  all_of_sorted cmp [] a = tt
  all_of_sorted cmp (r ∷ rows) a = all-with_row P cmp r (sorted_by cmp rows) a.0 (all_of_sorted cmp rows a.1)

  pub all_of_bag : (rows : List Row) → AllByRecursion P rows → AllByRecursion P (bag_of rows)
  unfolding bag_of
  all_of_bag rows a = all_of_sorted row_cmp rows a

  -- what holds of each row of a bag holds of each that is stored
  unwith : (cmp : Row → Row → Ordering) (r : Row) (rows : List Row) → AllByRecursion P (with_row cmp r rows) → P r × AllByRecursion P rows
  unwith cmp r [] a = (a.0, tt)
  unwith cmp r (s ∷ rows) a = by_test (is_gt (cmp r s))
      (λ k. let b = rw k at a in let more = unwith cmp r rows b.1 in (more.0, (b.0, more.1)))
      (λ k. let b = rw k at a in (b.0, b.1))

  unsorted : (cmp : Row → Row → Ordering) (rows : List Row) → AllByRecursion P (sorted_by cmp rows) → AllByRecursion P rows
  unsorted cmp [] a = tt
  unsorted cmp (r ∷ rows) a = let b = unwith cmp r (sorted_by cmp rows) a in (b.0, unsorted cmp rows b.1)

  pub all_of_rows : (rows : List Row) → AllByRecursion P (bag_of rows) → AllByRecursion P rows
  unfolding bag_of
  all_of_rows rows a = unsorted row_cmp rows a

module _ (keep : Row → Bool) (rows gone : List Row) (chosen : bag_of gone ≡ bag_of (filter keep rows)) where
  -- what holds of the rows that are kept holds of those that go
  pub gone_all : (P : Row → Type 0) → AllByRecursion P (filter keep rows) → AllByRecursion P gone
  gone_all P all = all_of_rows P gone (subst (λ (rs : List Row). AllByRecursion P rs) (sym chosen) (all_of_bag P (filter keep rows) all))

-- what holds of each pair holds in either order
pub turned : {X Y : Type 0} (P : X → Y → Type 0) (xs : List X) (ys : List Y) → AllByRecursion (λ x. AllByRecursion (P x) ys) xs → AllByRecursion (λ y. AllByRecursion (λ x. P x y) xs) ys
turned P [] ys h = all-of (λ y. Unit {0}) (λ y. tt) ys
turned P (x ∷ xs) ys h = all-both (P x) (λ y. AllByRecursion (λ z. P z y) xs) (λ y. P x y × AllByRecursion (λ z. P z y) xs) (λ y p q. (p, q)) ys h.0 (turned P xs ys h.1)

-- ---- The first of a list
-- so many, or all
least : {P : Type 0} (n m : ℕ) → (min n m ≡ n → P) → (min n m ≡ m → m ≤ n → P) → P
least n m few all = by_test (nat_lt n m)
    (λ k. let lt : n < m = ltb-true n m k in few (omega (arith, lt)))
    (λ k. let le : m ≤ n = ltb-false n m k in all (omega (arith, le)) le)

-- so many items, or all where they are fewer
pub take-least : {X : Type 0} (n : ℕ) (xs : List X) (k : ℕ) → k ≡ min (length xs) n → take k xs ≡ take n xs
take-least n xs k is = least n (length xs)
    (λ few. let same : k ≡ n = omega (arith, is, few) in ap (λ (m : ℕ). take m xs) same)
    (λ all le. let same : k ≡ length xs = omega (arith, is, all) in ap (λ (m : ℕ). take m xs) same ∙ take_all (length xs) xs (omega arith) ∙ sym (take_all n xs le))

-- and those behind them
pub drop-least : {X : Type 0} (n : ℕ) (xs : List X) (k : ℕ) → k ≡ min (length xs) n → drop k xs ≡ drop n xs
drop-least n xs k is = least n (length xs)
    (λ few. let same : k ≡ n = omega (arith, is, few) in ap (λ (m : ℕ). drop m xs) same)
    (λ all le. let same : k ≡ length xs = omega (arith, is, all) in ap (λ (m : ℕ). drop m xs) same ∙ drop_all (length xs) xs (omega arith) ∙ sym (drop_all n xs le))
