-- Aggregates over rows that are listed one by one.
use Rattle.std.proofs.Common.{◌≡◌, ℕ, ◌+◌, ◌<◌, ℤ, pos, ◌+ℤ◌, Bool, not, cond, List, [], ◌∷◌, ◌++◌, map, filter, take, length, get_or, refl, sym, ◌∙◌, ap, arith, subst}
use Rattle.std.specs.Cmp.{signed_Decides}
use Rattle.std.specs.Ordering.{int_eq}
use Rattle.std.proofs.lemmas.Int.{ints}
use Rattle.cq_values.specs.declared.value.Value.{Value}
use Rattle.cq_values.specs.declared.value.Value.TheVariants.{Null, Number, Text, Day}
use Rattle.cq_values.specs.Value.{Row}
use Rattle.cq_model_bags.specs.Bag.{once_each, firsts}
use Rattle.cq_model_bags.proofs.Totals.{by_test}
use Rattle.cq_model_bags.proofs.Distincts.{is_among-firsts}
use Rattle.cq_model.specs.Expr.{Expr}
use Rattle.cq_model.specs.declared.query.Aggregate.TheVariants.{CountAll, Count, Sum, Min, Max}
use Rattle.cq_model.specs.Condition.{is_null}
use Rattle.cq_model.specs.Eval.{eval}
use Rattle.cq_model.specs.Group.{InRange, SumInRange, addend, aggregate, count_all, count_values, sum_values, values_of, extreme, lower, higher}
use Rattle.cq_model.proofs.Extremes.{IsOne, IsChoice, IsUpTo, IsDownTo, extreme-same, lower-choice, higher-choice}
use Rattle.cq_model.proofs.Occurring.{kept_values, row-from-test, row-to-test, value-from-rows, value-to-rows}
use Rattle.cq_model_bags.proofs.Once.{distinct-once}
use Rattle.cq_model.specs.Totals.{shown_total, total_of}
use Rattle.std.proofs.lemmas.List.{take_more}

-- a value other than NULL
abbrev pub is_value : Value → Bool
is_value v = not (is_null v)

-- the values of an expression, one by one, without NULL
abbrev pub listed_values : Expr → List Row → List Value
listed_values e rows = filter is_value (map (eval e) rows)

-- ---- counts
pub count_all-listed : (rows : List Row) → count_all (once_each rows) ≡ pos (length rows)
count_all-listed [] = refl
count_all-listed (r ∷ rows) = omega (arith, ints, count_all-listed rows)

pub count_values-listed : (e : Expr) (rows : List Row) → count_values e (once_each rows) ≡ pos (length (listed_values e rows))
count_values-listed e [] = refl
count_values-listed e (r ∷ rows) = by_test (is_null (eval e r))
    (λ k. rw k (omega (arith, ints, count_values-listed e rows)))
    (λ k. rw k (omega (arith, ints, count_values-listed e rows)))

-- ---- totals
-- NULL adds nothing
next_total : (v : Value) (vs : List Value) → addend v +ℤ total_of (filter is_value vs) ≡ total_of (filter is_value (v ∷ vs))
next_total (Number n) vs = refl
next_total (Day d) vs = refl
next_total (Text t) vs = refl
next_total Null vs = omega (arith, ints)

pub sum_values-listed : (e : Expr) (rows : List Row) → sum_values e (once_each rows) ≡ total_of (listed_values e rows)
sum_values-listed e [] = refl
sum_values-listed e (r ∷ rows) = omega (arith, ints, sum_values-listed e rows, next_total (eval e r) (map (eval e) rows))

-- the total of values, or NULL where they are none
shown-total : (vs : List Value) → cond (int_eq (pos (length vs)) (pos 0)) Null (Number (total_of vs)) ≡ shown_total vs
shown-total [] = refl
shown-total (v ∷ vs) = by_test (int_eq (pos (length (v ∷ vs))) (pos 0))
    (λ k. absurd (let e : pos (length (v ∷ vs)) ≡ pos 0 = (signed_Decides (pos (length (v ∷ vs))) (pos 0)).0 k in omega (arith, ints, e)))
    (λ k. rw k refl)

-- ---- extremes: repeated rows have no further values
module _ (e : Expr) (rows : List Row) where
  from-firsts : (v : Value) → IsOne v (kept_values (eval e) is_value (firsts rows)) → IsOne v (listed_values e rows)
  from-firsts v h =
      let q = value-from-rows (eval e) is_value (firsts rows) v h in
      let among = row-from-test q.0 rows (sym (is_among-firsts rows q.0) ∙ row-to-test q.0 (firsts rows) q.1) in
      subst (λ w. IsOne w (listed_values e rows)) q.2 (value-to-rows (eval e) is_value rows q.0 among (ap is_value q.2 ∙ q.3))

  into-firsts : (v : Value) → IsOne v (listed_values e rows) → IsOne v (kept_values (eval e) is_value (firsts rows))
  into-firsts v h =
      let q = value-from-rows (eval e) is_value rows v h in
      let among = row-from-test q.0 (firsts rows) (is_among-firsts rows q.0 ∙ row-to-test q.0 rows q.1) in
      subst (λ w. IsOne w (kept_values (eval e) is_value (firsts rows))) q.2 (value-to-rows (eval e) is_value (firsts rows) q.0 among (ap is_value q.2 ∙ q.3))

  extreme-listed : (best : Value → Value → Value) (R : Value → Value → Type 0) → IsChoice best R → extreme best (values_of e (once_each rows)) ≡ extreme best (listed_values e rows)
  extreme-listed best R c =
      ap (λ (rs : List Row). extreme best (filter is_value (map (eval e) rs))) (distinct-once rows)
      ∙ extreme-same c (kept_values (eval e) is_value (firsts rows)) (listed_values e rows) from-firsts into-firsts

  -- ---- so each aggregate
  pub count-of : Number (pos (length (listed_values e rows))) ≡ aggregate (Count e) (once_each rows)
  count-of = ap Number (sym (count_values-listed e rows))

  pub sum-of : shown_total (listed_values e rows) ≡ aggregate (Sum e) (once_each rows)
  sum-of = sym (rw (count_values-listed e rows, sum_values-listed e rows) (shown-total (listed_values e rows)))

  pub min-of : extreme lower (listed_values e rows) ≡ aggregate (Min e) (once_each rows)
  min-of = sym (extreme-listed lower IsUpTo lower-choice)

  pub max-of : extreme higher (listed_values e rows) ≡ aggregate (Max e) (once_each rows)
  max-of = sym (extreme-listed higher IsDownTo higher-choice)

  -- a SUM's total can be shown where that of the values can
  pub sum-in_range : InRange (total_of (listed_values e rows)) → SumInRange (Sum e) (once_each rows)
  sum-in_range r = subst InRange (sym (sum_values-listed e rows)) r

  pub sum-shows : SumInRange (Sum e) (once_each rows) → InRange (total_of (listed_values e rows))
  sum-shows r = subst InRange (sum_values-listed e rows) r

-- the number of rows
pub count_all-of : (rows : List Row) → Number (pos (length rows)) ≡ aggregate CountAll (once_each rows)
count_all-of rows = ap Number (sym (count_all-listed rows))

-- ---- one value more
pub total-push : (values : List Value) (v : Value) → total_of (values ++ v ∷ []) ≡ total_of values +ℤ addend v
total-push [] v = omega (arith, ints)
total-push (w ∷ values) v = omega (arith, ints, total-push values v)

-- the total so far and the next value
pub total-next : (values : List Value) (i : ℕ) (v : Value) (total : ℤ) → i < length values → v ≡ get_or values i v → total ≡ total_of (take i values)
    → total +ℤ addend v ≡ total_of (take (i + 1) values)
total-next values i v total h is so_far =
    rw so_far (sym (total-push (take i values) v) ∙ ap total_of (sym (take_more values i v h ∙ ap (λ w. take i values ++ w ∷ []) (sym is))))
