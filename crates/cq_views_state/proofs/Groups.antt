-- What the groups show of the rows that they stand for, and where their totals can be shown.
use Rattle.std.proofs.Common.{◌≡◌, ℕ, ◌⊎◌, inl, inr, Bool, pos, ◌+ℤ◌, int_lt, cond, true, false, List, [], ◌∷◌, map, Some, None, refl, sym, ◌∙◌, ap, subst, arith}
use Rattle.std.specs.List.{AllByRecursion}
use Rattle.std.proofs.lemmas.Int.{ints}
use Rattle.cq_values.specs.Keys.{same_row-refl, same_row-same}
use Rattle.cq_values.specs.Order.{same_row}
use Rattle.cq_values.specs.Value.{Row}
use Rattle.cq_model_bags.specs.Bag.{SameBag, IsBag, Weighted, once_each, weight_of}
use Rattle.cq_model_bags.proofs.Distincts.{is_among, weight_of-absent}
use Rattle.cq_model_bags.proofs.Listings.{weight_of-once_each}
use Rattle.cq_model_bags.proofs.Positives.{filtered-bag, total-positive}
use Rattle.cq_model_bags.proofs.Totals.{by_test}
use Rattle.cq_model.specs.declared.query.Aggregate.{Aggregate}
use Rattle.cq_model.specs.declared.query.Aggregate.TheVariants.{CountAll, Count, CountDistinct, Sum, Min, Max}
use Rattle.cq_model.specs.Group.{InRange, SumInRange, SumsInRange, count_all, group_row, key_of, keys_of, rows_of_key, sum_values}
use Rattle.cq_views_model.specs.Kept.{Group, GroupStands, Groups, shown_row}
use Rattle.cq_views_model.specs.Shown.{ListsKeys}
use Rattle.cq_model_laws.proofs.Counted.{group-shows}
use Rattle.cq_model_laws.proofs.Groups.{group_row-respects, sum-respects}
use Rattle.cq_model_laws.proofs.Ranges.{all-at, all-from, key-counted}
use Rattle.cq_deltas.proofs.NoRows.{nothing-counted}
use Rattle.cq_deltas.proofs.Small.{ranges-show}
use Rattle.cq_deltas.specs.Keyed.{KeyedGroups, group_at}
use Rattle.cq_deltas.specs.Shown.{AllCanBeShown, GroupsCanBeShown, counted_keys, group_rows}
use Rattle.cq_views_state.proofs.Listing.{weight-among}
use Rattle.cq_views_state.specs.Shown.{or_nothing}
use Rattle.cq_model_bags.proofs.Once.{rows-once}
use Rattle.cq_model.proofs.Occurring.{IsRowOf, row-from-test, row-to-test}
use Rattle.cq_model_laws.proofs.Shown.{rows_of_no_key}

-- ---- with GROUP BY
module _ (columns : List ℕ) (aggregates : List Aggregate) (groups : KeyedGroups) (xs : Weighted) (lists : ListsKeys (counted_keys groups) (Groups (group_at aggregates groups)))
    (stands : (k : Row) → GroupStands aggregates (rows_of_key columns k xs) (group_at aggregates groups k)) where
  -- a key that occurs is listed
  listed : (k : Row) → IsRowOf k (keys_of columns xs) → IsRowOf k (counted_keys groups)
  listed k among =
      let counted : int_lt (pos 0) (group_at aggregates groups k).count ≡ true = ap (int_lt (pos 0)) (stands k).count ∙ sym (key-counted columns k xs) ∙ row-to-test k (keys_of columns xs) among in
      let weight : weight_of (once_each (counted_keys groups)) k ≡ pos 1 = lists k ∙ ap (λ b. cond b (pos 1) (pos 0)) counted in
      by_test (is_among k (counted_keys groups))
      (λ b. row-from-test k (counted_keys groups) b)
      (λ b. absurd (omega (arith, ints, weight, weight_of-absent (once_each (counted_keys groups)) k (ap (is_among k) (rows-once (counted_keys groups)) ∙ b))))

  -- a key that is listed occurs
  pub occurs : (k : Row) → IsRowOf k (counted_keys groups) → IsRowOf k (keys_of columns xs)
  occurs k among =
      let weight = weight-among (counted_keys groups) k (row-to-test k (counted_keys groups) among) in
      by_test (int_lt (pos 0) (group_at aggregates groups k).count)
      (λ b. row-from-test k (keys_of columns xs) (key-counted columns k xs ∙ ap (int_lt (pos 0)) (sym (stands k).count) ∙ b))
      (λ b. absurd (omega (arith, ints, weight, lists k ∙ ap (λ (c : Bool). cond c (pos 1) (pos 0)) b)))

  -- so all groups can be shown where the totals of each key are in range
  pub in-range : GroupsCanBeShown aggregates groups → SumsInRange (Some columns) aggregates xs
  in-range all =
      all-from (λ k. AllByRecursion (λ a. SumInRange a (rows_of_key columns k xs)) aggregates) (keys_of columns xs) (λ k among.
      (ranges-show aggregates (rows_of_key columns k xs) (group_at aggregates groups k) (stands k)).0
      (all-at (λ q. AllCanBeShown aggregates (group_at aggregates groups q).kept) (counted_keys groups) all k (listed k among)))

  pub can-be-shown : SumsInRange (Some columns) aggregates xs → GroupsCanBeShown aggregates groups
  can-be-shown all =
      all-from (λ k. AllCanBeShown aggregates (group_at aggregates groups k).kept) (counted_keys groups) (λ k among.
      (ranges-show aggregates (rows_of_key columns k xs) (group_at aggregates groups k) (stands k)).1
      (all-at (λ q. AllByRecursion (λ a. SumInRange a (rows_of_key columns q xs)) aggregates) (keys_of columns xs) all k (occurs k among)))

-- ---- without GROUP BY
-- and no row has another
rows_of_other : (k : Row) → same_row [] k ≡ false → (xs : Weighted) → rows_of_key [] k xs ≡ []
rows_of_other k other [] = refl
rows_of_other k other (x ∷ xs) = rw (other, rows_of_other k other xs) refl

-- of no rows each total is in range
none-in-range : (xs : Weighted) → SameBag [] xs → (aggregates : List Aggregate) → AllByRecursion (λ a. SumInRange a xs) aggregates
none-in-range xs none [] = tt
none-in-range xs none (CountAll ∷ aggregates) = (tt, none-in-range xs none aggregates)
none-in-range xs none (Count e ∷ aggregates) = (tt, none-in-range xs none aggregates)
none-in-range xs none (Sum e ∷ aggregates) =
    let is : pos 0 ≡ sum_values e xs = sum-respects e [] xs none in
    (subst InRange is (record { low = omega (arith, ints); high = omega (arith, ints) }), none-in-range xs none aggregates)
none-in-range xs none (CountDistinct e ∷ aggregates) = (tt, none-in-range xs none aggregates)
none-in-range xs none (Min e ∷ aggregates) = (tt, none-in-range xs none aggregates)
none-in-range xs none (Max e ∷ aggregates) = (tt, none-in-range xs none aggregates)

module _ (aggregates : List Aggregate) (groups : KeyedGroups) (xs : Weighted) (bag : IsBag xs) (lists : ListsKeys (counted_keys groups) (Groups (group_at aggregates groups)))
    (stands : (k : Row) → GroupStands aggregates (rows_of_key [] k xs) (group_at aggregates groups k)) where
  abbrev group : Row → Group
  group k = group_at aggregates groups k

  -- no other key is counted
  one-counted : (k : Row) → int_lt (pos 0) (group k).count ≡ true → k ≡ []
  one-counted k counted = by_test (same_row [] k)
      (λ b. sym (same_row-same [] k b))
      (λ b.
      let none : (group k).count ≡ pos 0 = (stands k).count ∙ ap count_all (rows_of_other k b xs) in
      absurd (let e = sym counted ∙ ap (int_lt (pos 0)) none in cc))

  -- so each key that is listed is that of all rows
  one-listed : (keys : List Row) → ListsKeys keys (Groups group) → (k : Row) → is_among k keys ≡ true → k ≡ []
  one-listed keys all k among =
      let weight = weight-among keys k among in
      by_test (int_lt (pos 0) (group k).count)
      (λ b. one-counted k b)
      (λ b. absurd (omega (arith, ints, weight, all k ∙ ap (λ (c : Bool). cond c (pos 1) (pos 0)) b)))

  first-among : (k : Row) (keys : List Row) → is_among k (k ∷ keys) ≡ true
  first-among k keys = rw (same_row-refl k) refl

  second-among : (k l : Row) (keys : List Row) → is_among l (k ∷ l ∷ keys) ≡ true
  second-among k l keys = by_test (same_row k l) (λ b. rw b refl) (λ b. rw (b, same_row-refl l) refl)

  -- there is no key, or that one
  one-key : (keys : List Row) → ListsKeys keys (Groups group) → (keys ≡ []) ⊎ (keys ≡ [] ∷ [])
  one-key [] all = inl refl
  one-key (k ∷ []) all = inr (ap (λ (r : Row). r ∷ []) (one-listed (k ∷ []) all k (first-among k [])))
  one-key (k ∷ l ∷ keys) all =
      let first : k ≡ [] = one-listed (k ∷ l ∷ keys) all k (first-among k (l ∷ keys)) in
      let second : l ≡ [] = one-listed (k ∷ l ∷ keys) all l (second-among k l keys) in
      let same_first : same_row k [] ≡ true = ap (λ (r : Row). same_row r []) first ∙ same_row-refl [] in
      let same_second : same_row l [] ≡ true = ap (λ (r : Row). same_row r []) second ∙ same_row-refl [] in
      let rest = weight_of-once_each keys [] in
      let whole : weight_of (once_each (k ∷ l ∷ keys)) [] ≡ pos 1 +ℤ (pos 1 +ℤ weight_of (once_each keys) []) = rw (same_first, same_second) refl in
      by_test (int_lt (pos 0) (group []).count)
      (λ b. absurd (omega (arith, ints, whole, rest, all [] ∙ ap (λ (c : Bool). cond c (pos 1) (pos 0)) b)))
      (λ b. absurd (omega (arith, ints, whole, rest, all [] ∙ ap (λ (c : Bool). cond c (pos 1) (pos 0)) b)))

  -- where no key is listed there are no rows
  no-rows : counted_keys groups ≡ [] → SameBag [] xs
  no-rows none =
      let weight : pos 0 ≡ cond (int_lt (pos 0) (group []).count) (pos 1) (pos 0) = ap (λ (keys : List Row). weight_of (once_each keys) []) (sym none) ∙ lists [] in
      let all : (group []).count ≡ count_all xs = (stands []).count ∙ ap count_all (rows_of_no_key xs) in
      let least = total-positive (λ r. pos 1) (λ r. omega (arith, ints)) xs bag in
      nothing-counted xs bag (by_test (int_lt (pos 0) (group []).count)
      (λ b. absurd (omega (arith, ints, weight ∙ ap (λ (c : Bool). cond c (pos 1) (pos 0)) b)))
      (λ b. omega (arith, ints, all, least, b)))

  -- one row is shown, that of all rows
  pub one-row : or_nothing aggregates (group_rows aggregates groups) ≡ group_row aggregates [] xs ∷ []
  one-row = elim (one-key (counted_keys groups) lists) [
    | inl none ↦
        let rows : group_rows aggregates groups ≡ [] = ap (map (λ k. shown_row aggregates k (group k).kept)) none in
        ap (or_nothing aggregates) rows ∙ ap (λ (r : Row). r ∷ []) (group_row-respects aggregates [] [] xs (no-rows none))
    | inr one ↦
        let rows : group_rows aggregates groups ≡ shown_row aggregates [] (group []).kept ∷ [] = ap (map (λ k. shown_row aggregates k (group k).kept)) one in
        let is : shown_row aggregates [] (group []).kept ≡ group_row aggregates [] xs =
        group-shows aggregates [] (rows_of_key [] [] xs) (group []) (filtered-bag (λ r. same_row (key_of [] r) []) xs bag) (stands []) ∙ ap (group_row aggregates []) (rows_of_no_key xs) in
        ap (or_nothing aggregates) rows ∙ ap (λ (r : Row). r ∷ []) is
  ]

  -- its totals can be shown where those of all rows can
  pub one-in-range : GroupsCanBeShown aggregates groups → SumsInRange None aggregates xs
  one-in-range all = elim (one-key (counted_keys groups) lists) [
    | inl none ↦ none-in-range xs (no-rows none) aggregates
    | inr one ↦
        let first = (subst (λ (keys : List Row). AllByRecursion (λ k. AllCanBeShown aggregates (group k).kept) keys) one all).0 in
        subst (λ (ys : Weighted). AllByRecursion (λ a. SumInRange a ys) aggregates) (rows_of_no_key xs)
        ((ranges-show aggregates (rows_of_key [] [] xs) (group []) (stands [])).0 first)
  ]

  pub one-can-be-shown : SumsInRange None aggregates xs → GroupsCanBeShown aggregates groups
  one-can-be-shown all = elim (one-key (counted_keys groups) lists) [
    | inl none ↦ subst (λ (keys : List Row). AllByRecursion (λ k. AllCanBeShown aggregates (group k).kept) keys) (sym none) tt
    | inr one ↦
        let first = (ranges-show aggregates (rows_of_key [] [] xs) (group []) (stands [])).1
        (subst (λ (ys : Weighted). AllByRecursion (λ a. SumInRange a ys) aggregates) (sym (rows_of_no_key xs)) all) in
        subst (λ (keys : List Row). AllByRecursion (λ k. AllCanBeShown aggregates (group k).kept) keys) (sym one) (first, tt)
  ]
