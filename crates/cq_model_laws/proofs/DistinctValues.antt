-- How many different values a bag has depends on the bag alone, and is no more than its rows.
use Rattle.std.proofs.Common.{◌≡◌, ℤ, pos, neg_ℤ, ◌+ℤ◌, ◌≤ℤ◌, int_lt, Bool, true, false, not, cond, List, [], ◌∷◌, length, refl, sym, ◌∙◌, ap, subst, arith}
use Rattle.std.proofs.lemmas.Int.{ints}
use Rattle.cq_values.specs.Value.{Row, column}
use Rattle.cq_model_bags.specs.Bag.{Weighted, IsBag, SameBag, difference, distinct, distinct_rows, negative, once_each, total, weight_of}
use Rattle.cq_model_bags.proofs.Bags.{projected-respects}
use Rattle.cq_model_bags.proofs.Distincts.{distinct-respects, weight_of-distinct}
use Rattle.cq_model_bags.proofs.Positives.{total-positive}
use Rattle.cq_model_bags.proofs.Totals.{by_test, total-append, total-negative, total-respects, weight_of-append, weight_of-negative}
use Rattle.cq_model.specs.Condition.{is_null}
use Rattle.cq_model.specs.Eval.{eval}
use Rattle.cq_model.specs.Expr.{Expr}
use Rattle.cq_model.specs.Group.{count_distinct, distinct_values, value_bag}
use Rattle.cq_model.proofs.Occurring.{kept_values}

-- a row of one value counts for one, and for none if it is NULL
abbrev pub one_unless_null : Row → ℤ
one_unless_null r = cond (is_null (column r 0)) (pos 0) (pos 1)

-- so many values other than NULL are in rows that are listed
listed-counted : (rows : List Row) → pos (length (kept_values (λ r. column r 0) (λ v. not (is_null v)) rows)) ≡ total one_unless_null (once_each rows)
listed-counted [] = refl
listed-counted (r ∷ rows) = by_test (is_null (column r 0))
    (λ k. rw k (omega (arith, ints, listed-counted rows)))
    (λ k. rw k (omega (arith, ints, listed-counted rows)))

-- and so many different ones in a bag
pub distinct-counted : (xs : Weighted) → pos (length (distinct_values xs)) ≡ total one_unless_null (distinct xs)
distinct-counted xs = listed-counted (distinct_rows xs)

-- that depends on the bag alone
pub distinct_values-respect : (xs ys : Weighted) → SameBag xs ys → pos (length (distinct_values xs)) ≡ pos (length (distinct_values ys))
distinct_values-respect xs ys s =
    distinct-counted xs ∙ total-respects one_unless_null (distinct xs) (distinct ys) (distinct-respects xs ys s) ∙ sym (distinct-counted ys)

-- so does COUNT(DISTINCT ..) of rows
pub count_distinct-respects : (e : Expr) (xs ys : Weighted) → SameBag xs ys → count_distinct e xs ≡ count_distinct e ys
count_distinct-respects e xs ys s =
    distinct_values-respect (value_bag e xs) (value_bag e ys) (projected-respects (λ r. eval e r ∷ []) xs ys s)

-- ---- how many there are
-- a row that is there is there once at least
once-within : (w : ℤ) → pos 0 ≤ℤ w → pos 0 ≤ℤ (w +ℤ neg_ℤ (cond (int_lt (pos 0) w) (pos 1) (pos 0)))
once-within w h = by_test (int_lt (pos 0) w) (λ k. rw k (omega (arith, ints, k))) (λ k. rw k (omega (arith, ints, h)))

-- a bag without each of its rows once is a bag
distinct-part : (xs : Weighted) → IsBag xs → IsBag (difference xs (distinct xs))
distinct-part xs b = record {
  at = λ r.
      let less = weight_of-negative (distinct xs) r ∙ ap neg_ℤ (weight_of-distinct xs r) in
      let whole = weight_of-append xs (negative (distinct xs)) r ∙ ap (λ n. weight_of xs r +ℤ n) less in
      subst (λ n. pos 0 ≤ℤ n) (sym whole) (once-within (weight_of xs r) (b.at r));
}

-- so different values are no more than values
pub distinct-fewer : (xs : Weighted) → IsBag xs → pos (length (distinct_values xs)) ≤ℤ total one_unless_null xs
distinct-fewer xs b =
    let rest = total-positive one_unless_null (λ r. positive (is_null (column r 0))) (difference xs (distinct xs)) (distinct-part xs b) in
    let whole = total-append one_unless_null xs (negative (distinct xs)) in
    omega (arith, ints, rest, whole, total-negative one_unless_null (distinct xs), distinct-counted xs)
  where
    positive : (t : Bool) → pos 0 ≤ℤ cond t (pos 0) (pos 1)
    positive true = omega (arith, ints)
    positive false = omega (arith, ints)
