-- The rows of groups have the sizes of their keys' columns, and of what is shown of the rows.
use Rattle.std.proofs.Common.{◌≡◌, ℕ, ◌^◌, ℤ, pos, neg_ℤ, ◌+ℤ◌, ◌≤ℤ◌, ◌<ℤ◌, int_lt, Bool, true, false, not, cond, List, [], ◌∷◌, map, filter, refl, sym, subst, arith}
use Rattle.std.proofs.lemmas.Int.{ints}
use Rattle.std.specs.List.{AllByRecursion}
use Rattle.std.specs.Ordering.{int_eq, is_gt}
use Rattle.std.specs.Prelude.{Some, None}
use Rattle.cq_values.specs.declared.value.Value.{Value}
use Rattle.cq_values.specs.Keys.{same_row-same}
use Rattle.cq_values.specs.Order.{same_row, value_cmp}
use Rattle.cq_values.specs.Value.{Row, column}
use Rattle.cq_model_bags.specs.Bag.{IsBag, Weighted, distinct_rows, projected, total, weight_of}
use Rattle.cq_model_bags.proofs.Entries.{distinct_rows-positive}
use Rattle.cq_model_bags.proofs.Linears.{weight_of-projected}
use Rattle.cq_model_bags.proofs.Positives.{filtered-bag, projected-bag, total-positive}
use Rattle.cq_model_bags.proofs.Totals.{by_test, is_row, total-filtered, total-plus, total-projected, total-same}
use Rattle.cq_model.specs.Expr.{Expr}
use Rattle.cq_model.specs.declared.query.Aggregate.{Aggregate}
use Rattle.cq_model.specs.declared.query.Aggregate.TheVariants.{CountAll, Count, CountDistinct, Sum, Min, Max}
use Rattle.cq_model.specs.Condition.{is_null}
use Rattle.cq_model.specs.Eval.{eval}
use Rattle.cq_model.specs.Group.{SumInRange, aggregate, count_all, count_distinct, count_values, extreme, group_row, higher, key_of, keys_of, lower, rows_of_key, sum_values, value_bag, values_of}
use Rattle.cq_model.specs.Width.{limits_of, width}
use Rattle.cq_model.specs.Sizes.{aggregate_size, count_size}
use Rattle.cq_model_laws.specs.Sizes.{GroupsKeepSizes, HasSizes, KeepsColumns, grouped_sizes}
use Rattle.cq_model.proofs.Extents.{value-within}
use Rattle.cq_model_laws.proofs.Columns.{bag-term, filtered-columns, listed-columns, sizes-beside}
use Rattle.cq_model_laws.proofs.DistinctValues.{distinct-fewer, one_unless_null}
use Rattle.cq_model_laws.proofs.Fits.{FitBeside, Fits, IsCount, beside-append, count-fits, null-fits, sum-fits, test-within}
use Rattle.cq_model_laws.proofs.Ranges.{all-at, all-from}
use Rattle.cq_model_bags.proofs.Lists.{all-map}
use Rattle.cq_model.proofs.Occurring.{IsRowOf}

-- ---- counts
-- sums of smaller terms over a bag are smaller
total-less : (f g : Row → ℤ) → ((r : Row) → f r ≤ℤ g r) → (xs : Weighted) → IsBag xs → total f xs ≤ℤ total g xs
total-less f g less xs b =
    let more : Row → ℤ = λ r. g r +ℤ neg_ℤ (f r) in
    let rest = total-positive more (λ r. omega (arith, ints, less r)) xs b in
    let whole = total-plus f more xs in
    let same = total-same (λ r. f r +ℤ more r) g (λ r. omega (arith, ints)) xs in
    omega (arith, ints, rest, whole, same)

-- what is counted of a bag is not more than its rows
count-within : (f : Row → ℤ) → ((r : Row) → IsCount (f r) 1) → (m : ℕ) (xs : Weighted) → IsBag xs → count_all xs ≤ℤ pos m → IsCount (total f xs) m
count-within f within m xs b few =
    let low = total-positive f (λ r. (within r).0) xs b in
    let high = total-less f (λ r. pos 1) (λ r. (within r).1) xs b in
    (low, omega (arith, ints, high, few))

-- some of them are not more than all
fewer-kept : (keep : Row → Bool) (m : ℕ) (xs : Weighted) → IsBag xs → count_all xs ≤ℤ pos m → total (λ r. pos 1) (filter (λ x. keep x.0) xs) ≤ℤ pos m
fewer-kept keep m xs b few =
    let kept = count-within (λ r. cond (keep r) (pos 1) (pos 0)) (λ r. kept-within (keep r)) m xs b few in
    subst (λ n. n ≤ℤ pos m) (sym (total-filtered (λ r. pos 1) keep xs)) kept.1
  where
    kept-within : (k : Bool) → IsCount (cond k (pos 1) (pos 0)) 1
    kept-within true = (omega (arith, ints), omega (arith, ints))
    kept-within false = (omega (arith, ints), omega (arith, ints))

-- different values are no more than the rows
pub distinct-within : (e : Expr) (m : ℕ) (xs : Weighted) → IsBag xs → count_all xs ≤ℤ pos m → IsCount (count_distinct e xs) m
distinct-within e m xs b few =
    let values = value_bag e xs in
    let bag = projected-bag (λ r. eval e r ∷ []) xs b in
    let rows = total-projected (λ r. pos 1) (λ r. eval e r ∷ []) xs in
    let most = count-within one_unless_null (λ r. test-within (is_null (column r 0))) m values bag (subst (λ n. n ≤ℤ pos m) (sym rows) few) in
    (omega (arith, ints), omega (arith, ints, most.1, distinct-fewer values bag))

-- ---- extremes
module _ (n : ℕ) where
  pub lower-fits : (v w : Value) → Fits v n → Fits w n → Fits (lower v w) n
  lower-fits v w p q = by_test (is_gt (value_cmp v w)) (λ k. rw k q) (λ k. rw k p)

  pub higher-fits : (v w : Value) → Fits v n → Fits w n → Fits (higher v w) n
  higher-fits v w p q = by_test (is_gt (value_cmp v w)) (λ k. rw k p) (λ k. rw k q)

  -- the extreme of values that fit
  pub extreme-fits : (best : Value → Value → Value) → ((v w : Value) → Fits v n → Fits w n → Fits (best v w) n) → (vs : List Value) → AllByRecursion (λ v. Fits v n) vs → Fits (extreme best vs) n
  extreme-fits best fit [] all = null-fits n
  extreme-fits best fit (v ∷ []) all = all.0
  extreme-fits best fit (v ∷ w ∷ vs) all = fit v (extreme best (w ∷ vs)) all.0 (extreme-fits best fit (w ∷ vs) all.1)

  -- the values of an argument that are not NULL
  pub values-fit : (e : Expr) (rows : List Row) → AllByRecursion (λ r. Fits (eval e r) n) rows → AllByRecursion (λ v. Fits v n) (filter (λ v. not (is_null v)) (map (eval e) rows))
  values-fit e [] all = tt
  values-fit e (r ∷ rows) all = by_test (not (is_null (eval e r))) (λ k. rw k (all.0, values-fit e rows all.1)) (λ k. rw k (values-fit e rows all.1))

-- ---- what is shown of rows
module _ (sizes : List ℕ) (xs : Weighted) (bag : IsBag xs) (columns : KeepsColumns sizes xs) (few : count_all xs ≤ℤ pos count_size) where
  -- an argument fits in each row that is there
  argument-fits : (e : Expr) → AllByRecursion (λ r. Fits (eval e r) (width e (limits_of sizes)).size) (distinct_rows xs)
  argument-fits e = all-from (λ r. Fits (eval e r) (width e (limits_of sizes)).size) (distinct_rows xs) (λ r among.
      let there = all-at (λ q. int_lt (pos 0) (weight_of xs q) ≡ true) (distinct_rows xs) (distinct_rows-positive xs) r among in
      value-within r (limits_of sizes) (columns r (omega (arith, ints, there))).sized e)

  shown-fits : (a : Aggregate) → SumInRange a xs → Fits (aggregate a xs) (aggregate_size (limits_of sizes) a)
  shown-fits CountAll s = count-fits _ count_size (count-within (λ r. pos 1) (λ r. test-within false) count_size xs bag few) (omega arith)
  shown-fits (Count e) s =
      count-fits _ count_size (count-within (λ r. cond (is_null (eval e r)) (pos 0) (pos 1)) (λ r. test-within (is_null (eval e r))) count_size xs bag few) (omega arith)
  shown-fits (CountDistinct e) s = count-fits _ count_size (distinct-within e count_size xs bag few) (omega arith)
  shown-fits (Sum e) s = by_test (int_eq (count_values e xs) (pos 0))
      (λ t. rw t (null-fits (2 ^ 127)))
      (λ t. rw t (sum-fits (sum_values e xs) s))
  shown-fits (Min e) s =
      let n = (width e (limits_of sizes)).size in extreme-fits n lower (lower-fits n) (values_of e xs) (values-fit n e (distinct_rows xs) (argument-fits e))
  shown-fits (Max e) s =
      let n = (width e (limits_of sizes)).size in extreme-fits n higher (higher-fits n) (values_of e xs) (values-fit n e (distinct_rows xs) (argument-fits e))

  all-shown-fit : (aggregates : List Aggregate) → AllByRecursion (λ a. SumInRange a xs) aggregates → FitBeside (map (λ a. aggregate a xs) aggregates) (map (aggregate_size (limits_of sizes)) aggregates)
  all-shown-fit [] s = tt
  all-shown-fit (a ∷ aggregates) s = (shown-fits a s.0, all-shown-fit aggregates s.1)

-- ---- keys
key-beside : (sizes keys : List ℕ) (r : Row) → HasSizes sizes r → FitBeside (key_of keys r) (map (limits_of sizes) keys)
key-beside sizes [] r h = tt
key-beside sizes (c ∷ keys) r h = (h.sized c, key-beside sizes keys r h)

-- a test that holds
holds-of : (b : Bool) → pos 0 <ℤ cond b (pos 1) (pos 0) → b ≡ true
holds-of true h = refl
holds-of false h = absurd (omega (arith, ints, h))

-- a key that occurs is that of a row
key-fits : (sizes keys : List ℕ) (xs : Weighted) → IsBag xs → KeepsColumns sizes xs → (k : Row) → IsRowOf k (keys_of keys xs) → FitBeside k (map (limits_of sizes) keys)
key-fits sizes keys xs bag columns k among =
    let there = all-at (λ q. int_lt (pos 0) (weight_of (projected (key_of keys) xs) q) ≡ true) (keys_of keys xs) (distinct_rows-positive (projected (key_of keys) xs)) k among in
    let row = bag-term (λ r. is_row k (key_of keys r)) xs bag (subst (λ n. pos 0 <ℤ n) (weight_of-projected (key_of keys) xs k) (omega (arith, ints, there))) in
    let same = same_row-same (key_of keys row.0) k (holds-of (same_row (key_of keys row.0) k) row.2) in
    subst (λ q. FitBeside q (map (limits_of sizes) keys)) same (key-beside sizes keys row.0 (columns row.0 row.1))

-- ---- groups
pub groups-keep-sizes : GroupsKeepSizes
groups-keep-sizes sizes None aggregates xs bag columns few sums =
    let whole = sizes-beside (group_row aggregates [] xs) (map (aggregate_size (limits_of sizes)) aggregates) (all-shown-fit sizes xs bag columns few aggregates sums) in
    listed-columns (map (aggregate_size (limits_of sizes)) aggregates) (group_row aggregates [] xs ∷ []) (whole, tt)
groups-keep-sizes sizes (Some keys) aggregates xs bag columns few sums =
    listed-columns all (map group_of (keys_of keys xs)) (all-map Sized (HasSizes all) group_of (λ k h. h) (keys_of keys xs) (all-from Sized (keys_of keys xs) each))
  where
    all : List ℕ
    all = grouped_sizes sizes (Some keys) aggregates

    group_of : Row → Row
    group_of k = group_row aggregates k (rows_of_key keys k xs)

    Sized : Row → Type 0
    Sized k = HasSizes all (group_of k)

    each : (k : Row) → IsRowOf k (keys_of keys xs) → Sized k
    each k among =
        let keep : Row → Bool = λ r. same_row (key_of keys r) k in
        let own = rows_of_key keys k xs in
        let of_key = all-at (λ g. AllByRecursion (λ a. SumInRange a (rows_of_key keys g xs)) aggregates) (keys_of keys xs) sums k among in
        let shown = all-shown-fit sizes own (filtered-bag keep xs bag) (filtered-columns keep sizes xs columns) (fewer-kept keep count_size xs bag few) aggregates of_key in
        sizes-beside (group_of k) all (beside-append k (map (limits_of sizes) keys) (map (λ a. aggregate a own) aggregates) (map (aggregate_size (limits_of sizes)) aggregates) (key-fits sizes keys xs bag columns k among) shown)
