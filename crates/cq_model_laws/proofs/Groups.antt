-- A group's row is one of the bag.
use Rattle.std.proofs.Common.{◌≡◌, ℕ, pos, ◌+ℤ◌, Bool, not, cond, List, [], ◌∷◌, ◌++◌, map, refl, sym, ◌∙◌, ap, Option, Some, None, int_lt, subst}
use Rattle.cq_values.specs.declared.value.Value.{Value}
use Rattle.cq_values.specs.declared.value.Value.TheVariants.{Number}
use Rattle.cq_values.specs.Value.{Row}
use Rattle.cq_values.specs.Order.{same_row}
use Rattle.cq_model.specs.Expr.{Expr}
use Rattle.cq_model.specs.declared.query.Aggregate.{Aggregate}
use Rattle.cq_model.specs.declared.query.Aggregate.TheVariants.{CountAll, Count, CountDistinct, Sum, Min, Max}
use Rattle.cq_model.specs.Condition.{is_null}
use Rattle.cq_model.specs.Eval.{eval}
use Rattle.cq_model_bags.specs.Bag.{Weighted, SameBag, projected, distinct_rows, distinct}
use Rattle.cq_model.specs.Group.{addend, count_all, count_values, sum_values, values_of, aggregate, key_of, rows_of_key, group_row, keys_of, grouped}
use Rattle.cq_model_bags.proofs.Totals.{total-append, total-respects}
use Rattle.cq_model_bags.proofs.Bags.{filtered-respects, projected-respects, same-sym}
use Rattle.cq_model_bags.proofs.Distincts.{once_each-map, distinct-respects, is_among-distinct}
use Rattle.cq_model.proofs.Occurring.{IsRowOf, kept_values, row-from-test, row-to-test, value-from-rows, value-to-rows}
use Rattle.cq_model.proofs.Extremes.{IsOne, extreme-same, higher-choice, lower-choice}
use Rattle.cq_model_laws.proofs.DistinctValues.{count_distinct-respects}

-- ---- counts and sums of a change add up
pub count-append : (e : Expr) (xs dxs : Weighted) → count_values e (xs ++ dxs) ≡ count_values e xs +ℤ count_values e dxs
count-append e xs dxs = total-append (λ r. cond (is_null (eval e r)) (pos 0) (pos 1)) xs dxs

-- ---- which values occur
-- totals add up
pub sum-append : (e : Expr) (xs dxs : Weighted) → sum_values e (xs ++ dxs) ≡ sum_values e xs +ℤ sum_values e dxs
sum-append e xs dxs = total-append (λ r. addend (eval e r)) xs dxs

-- which rows are there depends on the bag alone
pub rows-respect : (xs ys : Weighted) → SameBag xs ys → (r : Row) → IsRowOf r (distinct_rows xs) → IsRowOf r (distinct_rows ys)
rows-respect xs ys s r h =
    row-from-test r (distinct_rows ys) (is_among-distinct ys r ∙ ap (int_lt (pos 0)) (sym (s.at r)) ∙ sym (is_among-distinct xs r) ∙ row-to-test r (distinct_rows xs) h)

-- so do the values that are kept of them
pub kept_values-respect : (f : Row → Value) (keep : Value → Bool) (xs ys : Weighted) → SameBag xs ys → (v : Value) → IsOne v (kept_values f keep (distinct_rows xs)) → IsOne v (kept_values f keep (distinct_rows ys))
kept_values-respect f keep xs ys s v h =
    let q = value-from-rows f keep (distinct_rows xs) v h in
    subst (λ w. IsOne w (kept_values f keep (distinct_rows ys))) q.2 (value-to-rows f keep (distinct_rows ys) q.0 (rows-respect xs ys s q.0 q.1) (ap keep q.2 ∙ q.3))

-- and the values of an argument
values-respect : (e : Expr) (xs ys : Weighted) → SameBag xs ys → (v : Value) → IsOne v (values_of e xs) → IsOne v (values_of e ys)
values-respect e = kept_values-respect (eval e) (λ w. not (is_null w))

-- ---- an aggregate is one of the bag
pub count_all-respects : (xs ys : Weighted) → SameBag xs ys → count_all xs ≡ count_all ys
count_all-respects = total-respects (λ r. pos 1)

-- how many values there are depends on the bag alone
pub count-respects : (e : Expr) (xs ys : Weighted) → SameBag xs ys → count_values e xs ≡ count_values e ys
count-respects e = total-respects (λ r. cond (is_null (eval e r)) (pos 0) (pos 1))

-- and so does their total
pub sum-respects : (e : Expr) (xs ys : Weighted) → SameBag xs ys → sum_values e xs ≡ sum_values e ys
sum-respects e = total-respects (λ r. addend (eval e r))

-- each aggregate depends on the bag alone
pub aggregate-respects : (a : Aggregate) (xs ys : Weighted) → SameBag xs ys → aggregate a xs ≡ aggregate a ys
aggregate-respects CountAll xs ys s = ap Number (count_all-respects xs ys s)
aggregate-respects (Count e) xs ys s = ap Number (count-respects e xs ys s)
aggregate-respects (CountDistinct e) xs ys s = ap Number (count_distinct-respects e xs ys s)
aggregate-respects (Sum e) xs ys s = rw (count-respects e xs ys s, sum-respects e xs ys s) refl
aggregate-respects (Min e) xs ys s = extreme-same lower-choice (values_of e xs) (values_of e ys) (values-respect e xs ys s) (values-respect e ys xs (same-sym xs ys s))
aggregate-respects (Max e) xs ys s = extreme-same higher-choice (values_of e xs) (values_of e ys) (values-respect e xs ys s) (values-respect e ys xs (same-sym xs ys s))

-- and so do all of a list
aggregates-respect : (aggregates : List Aggregate) (xs ys : Weighted) → SameBag xs ys → map (λ a. aggregate a xs) aggregates ≡ map (λ a. aggregate a ys) aggregates
aggregates-respect [] xs ys s = refl
aggregates-respect (a ∷ aggregates) xs ys s = rw (aggregate-respects a xs ys s, aggregates-respect aggregates xs ys s) refl

-- a group's row depends on the bag of its rows alone
pub group_row-respects : (aggregates : List Aggregate) (k : Row) (xs ys : Weighted) → SameBag xs ys → group_row aggregates k xs ≡ group_row aggregates k ys
group_row-respects aggregates k xs ys s = ap (λ vs. k ++ vs) (aggregates-respect aggregates xs ys s)

-- one image of each row gives one bag
pub projected-same : (f g : Row → Row) → ((r : Row) → f r ≡ g r) → (xs : Weighted) → SameBag (projected f xs) (projected g xs)
projected-same f g h [] = record { at = λ r. refl }
projected-same f g h (x ∷ xs) = record { at = λ r. rw (h x.0, (projected-same f g h xs).at r) refl }

-- ---- the groups are those of the bag
pub grouped-respects : (columns : Option (List ℕ)) (aggregates : List Aggregate) (xs ys : Weighted) → SameBag xs ys → SameBag (grouped columns aggregates xs) (grouped columns aggregates ys)
grouped-respects None aggregates xs ys s = record { at = λ r. rw (group_row-respects aggregates [] xs ys s) refl }
grouped-respects (Some columns) aggregates xs ys s =
    let f : Row → Row = λ k. group_row aggregates k (rows_of_key columns k xs) in
    let g : Row → Row = λ k. group_row aggregates k (rows_of_key columns k ys) in
    let by_keys = projected-respects f (distinct (projected (key_of columns) xs)) (distinct (projected (key_of columns) ys))
    (distinct-respects (projected (key_of columns) xs) (projected (key_of columns) ys) (projected-respects (key_of columns) xs ys s)) in
    let by_rows = projected-same f g (λ k. group_row-respects aggregates k (rows_of_key columns k xs) (rows_of_key columns k ys)
    (filtered-respects (λ r. same_row (key_of columns r) k) xs ys s)) (distinct (projected (key_of columns) ys)) in
    record { at = λ r. rw (once_each-map f (keys_of columns xs), once_each-map g (keys_of columns ys)) (by_keys.at r ∙ by_rows.at r) }
