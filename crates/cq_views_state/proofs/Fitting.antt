-- What a group shows of few stored rows is no larger than its size.
use Rattle.std.proofs.Common.{◌≡◌, ◌≤◌, ◌^◌, ℤ, pos, ◌*ℤ◌, nat_abs, int_lt, Bool, true, false, cond, List, [], ◌∷◌, map, sym, ◌∙◌, ap, arith}
use Rattle.std.proofs.lemmas.Int.{ints, unsigned_abs-mul}
use Rattle.std.proofs.lemmas.Nat.{mul-le}
use Rattle.std.specs.List.{AllByRecursion}
use Rattle.std.specs.Ordering.{int_eq}
use Rattle.cq_values.specs.Value.{Row}
use Rattle.cq_model_bags.specs.Bag.{IsBag, Weighted, distinct_rows, total, weight_of}
use Rattle.cq_model_bags.proofs.Entries.{distinct_rows-positive}
use Rattle.cq_model_bags.proofs.Totals.{by_test}
use Rattle.cq_model.proofs.Extents.{value-within}
use Rattle.cq_model.specs.Expr.{Expr}
use Rattle.cq_model.specs.declared.query.Aggregate.{Aggregate}
use Rattle.cq_model.specs.declared.query.Aggregate.TheVariants.{CountAll, Count, CountDistinct, Sum, Min, Max}
use Rattle.cq_model.specs.Condition.{is_null}
use Rattle.cq_model.specs.Eval.{eval}
use Rattle.cq_model.specs.Group.{SumInRange, aggregate, count_values, higher, lower, sum_values, values_of}
use Rattle.cq_model.specs.Sizes.{IsStored, count_size, shown_size, stored_size}
use Rattle.cq_model.specs.Width.{width}
use Rattle.cq_model_laws.proofs.Fits.{FitBeside, Fits, count-fits, null-fits, sum-fits}
use Rattle.cq_model_laws.proofs.Ranges.{all-at, all-from}
use Rattle.cq_sides_weights.proofs.RowByRow.{sizes-cons}
use Rattle.cq_sides_weights.specs.Held.{sizes}
use Rattle.cq_deltas_joins.specs.Steps.{AreStored}
use Rattle.cq_model_bags.proofs.Sizes.{listed-all}
use Rattle.cq_model_bags.proofs.Integers.{abs-plus}
use Rattle.cq_model_laws.proofs.GroupSizes.{distinct-within, extreme-fits, higher-fits, lower-fits, values-fit}

-- ---- counts
-- a sum over rows of what is at most one is no larger than they are many
total-few : (f : Row → ℤ) → ((r : Row) → nat_abs (f r) ≤ 1) → (xs : Weighted) → nat_abs (total f xs) ≤ sizes xs
total-few f least [] = omega arith
total-few f least (x ∷ xs) =
    let here = mul-le (nat_abs x.1) (nat_abs (f x.0)) (nat_abs x.1) 1 (omega arith) (least x.0) in
    omega (arith, abs-plus (x.1 *ℤ f x.0) (total f xs), unsigned_abs-mul x.1 (f x.0), here, sizes-cons x xs, total-few f least xs)

-- a test counts for one at most
test-least : (b : Bool) → nat_abs (cond b (pos 0) (pos 1)) ≤ 1
test-least true = omega arith
test-least false = omega arith

-- ---- what is shown
module _ (xs : Weighted) (bag : IsBag xs) (stored : AreStored xs) (few : sizes xs ≤ count_size) where
  -- an argument fits in each row that is there
  argument-fits : (e : Expr) → AllByRecursion (λ r. Fits (eval e r) (width e (λ i. stored_size)).size) (distinct_rows xs)
  argument-fits e = all-from (λ r. Fits (eval e r) (width e (λ i. stored_size)).size) (distinct_rows xs) (λ r among.
      let there : int_lt (pos 0) (weight_of xs r) ≡ true =
      all-at (λ q. int_lt (pos 0) (weight_of xs q) ≡ true) (distinct_rows xs) (distinct_rows-positive xs) r among in
      let row = listed-all IsStored xs r stored (λ none. absurd (let e = sym there ∙ ap (int_lt (pos 0)) none in cc)) in
      value-within r (λ i. stored_size) row e)

  shown-fits : (a : Aggregate) → SumInRange a xs → Fits (aggregate a xs) (shown_size a)
  shown-fits CountAll s = omega (arith, few, total-few (λ r. pos 1) (λ r. omega arith) xs)
  shown-fits (Count e) s =
      let some : Row → ℤ = λ r. cond (is_null (eval e r)) (pos 0) (pos 1) in
      omega (arith, few, total-few some (λ r. test-least (is_null (eval e r))) xs)
  shown-fits (CountDistinct e) s =
      let rows = total-few (λ r. pos 1) (λ r. omega arith) xs in
      count-fits _ count_size (distinct-within e count_size xs bag (omega (arith, ints, few, rows))) (omega arith)
  shown-fits (Sum e) s = by_test (int_eq (count_values e xs) (pos 0))
      (λ t. rw t (null-fits (2 ^ 127)))
      (λ t. rw t (sum-fits (sum_values e xs) s))
  shown-fits (Min e) s =
      let n = (width e (λ i. stored_size)).size in
      extreme-fits n lower (lower-fits n) (values_of e xs) (values-fit n e (distinct_rows xs) (argument-fits e))
  shown-fits (Max e) s =
      let n = (width e (λ i. stored_size)).size in
      extreme-fits n higher (higher-fits n) (values_of e xs) (values-fit n e (distinct_rows xs) (argument-fits e))

  -- so it is with all that a group shows
  pub all-shown-fit : (aggregates : List Aggregate) → AllByRecursion (λ a. SumInRange a xs) aggregates
      → FitBeside (map (λ a. aggregate a xs) aggregates) (map shown_size aggregates)
  all-shown-fit [] s = tt
  all-shown-fit (a ∷ aggregates) s = (shown-fits a s.0, all-shown-fit aggregates s.1)
