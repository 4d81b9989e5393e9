-- MIN and MAX are extremes of the bag of the argument's values, and what is kept of an aggregate shows it.
use Rattle.std.proofs.Common.{◌≡◌, Bool, true, not, ◌||◌, List, [], ◌∷◌, ◌++◌, map, refl, sym, ◌∙◌, ap, subst, inl, inr}
use Rattle.std.specs.List.{list_any}
use Rattle.cq_values.specs.declared.value.Value.{Value}
use Rattle.cq_values.specs.declared.value.Value.TheVariants.{Number}
use Rattle.cq_values.specs.Value.{Row, column}
use Rattle.cq_values.specs.Order.{same_row}
use Rattle.cq_values.specs.Keys.{same_row-refl, same_row-same}
use Rattle.cq_model.specs.Expr.{Expr}
use Rattle.cq_model.specs.Condition.{is_null}
use Rattle.cq_model.specs.Eval.{eval}
use Rattle.cq_model_bags.specs.Bag.{Weighted, SameBag, IsBag, distinct_rows}
use Rattle.cq_model.specs.declared.query.Aggregate.{Aggregate}
use Rattle.cq_model.specs.declared.query.Aggregate.TheVariants.{CountAll, Count, CountDistinct, Sum, Min, Max}
use Rattle.cq_model.specs.Group.{values_of, value_bag, extreme_of, extreme, lower, higher, aggregate, group_row}
use Rattle.cq_views_model.specs.Kept.{Kept, Counted, Totalled, Listed, IsKept, kept_value, shown_values, AreKept, Group, GroupStands, shown_row}
use Rattle.cq_model_bags.proofs.Totals.{by_test}
use Rattle.cq_model_bags.proofs.Bags.{same-sym}
use Rattle.cq_model_bags.proofs.Distincts.{is_among-distinct}
use Rattle.cq_model_bags.proofs.Entries.{image-there}
use Rattle.cq_model_laws.proofs.DistinctValues.{distinct_values-respect}
use Rattle.cq_model_laws.proofs.Groups.{kept_values-respect}
use Rattle.cq_model.proofs.Occurring.{IsRowOf, kept_values, row-from-test, row-to-test, value-from-rows, value-to-rows}
use Rattle.cq_model.proofs.Extremes.{IsChoice, IsDownTo, IsOne, IsUpTo, extreme-same, higher-choice, lower-choice}

-- a row that passes is found
any-from : (t : Row → Bool) (rows : List Row) → list_any t rows ≡ true → (r : Row) × IsRowOf r rows × (t r ≡ true)
any-from t [] h = absurd (cc)
any-from t (s ∷ rows) h = by_test (t s)
    (λ k. (s, inl refl, k))
    (λ k. let q = any-from t rows (sym (ap (λ b. b || list_any t rows) k) ∙ h) in (q.0, inr q.1, q.2))

-- a row that is found passes
any-to : (t : Row → Bool) (rows : List Row) (r : Row) → IsRowOf r rows → t r ≡ true → list_any t rows ≡ true
any-to t [] r h k = absurd h
any-to t (s ∷ rows) r (inl e) k = let j : t s ≡ true = ap t (sym e) ∙ k in rw j refl
any-to t (s ∷ rows) r (inr h) k = by_test (t s) (λ j. rw j refl) (λ j. rw j (any-to t rows r h k))

-- the values that occur are those of the bag of values
module _ (e : Expr) (xs : Weighted) (b : IsBag xs) where
  -- the row of one column that holds the value
  abbrev image : Row → Row
  image r = eval e r ∷ []

  -- values other than NULL
  abbrev keep : Value → Bool
  keep v = not (is_null v)

  -- a value of the rows is in the bag of values
  into-bag : (v : Value) → IsOne v (values_of e xs) → IsOne v (kept_values (λ r. column r 0) keep (distinct_rows (value_bag e xs)))
  into-bag v h =
      let q = value-from-rows (eval e) keep (distinct_rows xs) v h in
      let there = is_among-distinct (value_bag e xs) (image q.0) ∙ image-there image xs b (image q.0) ∙ any-to (λ r. same_row (image r) (image q.0)) (distinct_rows xs) q.0 q.1 (same_row-refl (image q.0)) in
      subst (λ w. IsOne w (kept_values (λ r. column r 0) keep (distinct_rows (value_bag e xs)))) q.2
      (value-to-rows (λ r. column r 0) keep (distinct_rows (value_bag e xs)) (image q.0) (row-from-test (image q.0) (distinct_rows (value_bag e xs)) there) (ap keep q.2 ∙ q.3))

  -- a value in the bag is one of the rows
  from-bag : (v : Value) → IsOne v (kept_values (λ r. column r 0) keep (distinct_rows (value_bag e xs))) → IsOne v (values_of e xs)
  from-bag v h =
      let q = value-from-rows (λ r. column r 0) keep (distinct_rows (value_bag e xs)) v h in
      let there = sym (is_among-distinct (value_bag e xs) q.0 ∙ image-there image xs b q.0) ∙ row-to-test q.0 (distinct_rows (value_bag e xs)) q.1 in
      let p = any-from (λ r. same_row (image r) q.0) (distinct_rows xs) there in
      let same : eval e p.0 ≡ v = ap (λ r. column r 0) (same_row-same (image p.0) q.0 p.2) ∙ q.2 in
      subst (λ w. IsOne w (values_of e xs)) same (value-to-rows (eval e) keep (distinct_rows xs) p.0 p.1 (ap keep same ∙ q.3))

  -- so both have one extreme
  pub extreme-counted : (best : Value → Value → Value) (R : Value → Value → Type 0) → IsChoice best R → extreme best (values_of e xs) ≡ extreme_of best (value_bag e xs)
  extreme-counted best R c = extreme-same c (values_of e xs) (kept_values (λ r. column r 0) keep (distinct_rows (value_bag e xs))) into-bag from-bag

-- ---- what is kept of values
-- the extreme of a bag of values depends on the bag alone
extreme_of-respects : (best : Value → Value → Value) (R : Value → Value → Type 0) → IsChoice best R → (xs ys : Weighted) → SameBag xs ys → extreme_of best xs ≡ extreme_of best ys
extreme_of-respects best R c xs ys s =
    let f : Row → Value = λ r. column r 0 in
    let some : Value → Bool = λ v. not (is_null v) in
    extreme-same c (kept_values f some (distinct_rows xs)) (kept_values f some (distinct_rows ys))
    (kept_values-respect f some xs ys s) (kept_values-respect f some ys xs (same-sym xs ys s))

-- what is kept of an aggregate shows it
pub kept-shows : (a : Aggregate) (xs : Weighted) (k : Kept) → IsBag xs → IsKept a xs k → kept_value a k ≡ aggregate a xs
kept-shows CountAll xs (Counted n) b h = ap Number h
kept-shows (Count e) xs (Counted n) b h = ap Number h
kept-shows (CountDistinct e) xs (Listed values) b h = ap Number (distinct_values-respect values (value_bag e xs) h)
kept-shows (Sum e) xs (Totalled n total) b h = rw (h.0, h.1) refl
kept-shows (Min e) xs (Listed values) b h = extreme_of-respects lower IsUpTo lower-choice values (value_bag e xs) h ∙ sym (extreme-counted e xs b lower IsUpTo lower-choice)
kept-shows (Max e) xs (Listed values) b h = extreme_of-respects higher IsDownTo higher-choice values (value_bag e xs) h ∙ sym (extreme-counted e xs b higher IsDownTo higher-choice)
kept-shows CountAll xs (Totalled n t) b h = absurd h
kept-shows CountAll xs (Listed v) b h = absurd h
kept-shows (Count e) xs (Totalled n t) b h = absurd h
kept-shows (Count e) xs (Listed v) b h = absurd h
kept-shows (CountDistinct e) xs (Counted n) b h = absurd h
kept-shows (CountDistinct e) xs (Totalled n t) b h = absurd h
kept-shows (Sum e) xs (Counted n) b h = absurd h
kept-shows (Sum e) xs (Listed v) b h = absurd h
kept-shows (Min e) xs (Counted n) b h = absurd h
kept-shows (Min e) xs (Totalled n t) b h = absurd h
kept-shows (Max e) xs (Counted n) b h = absurd h
kept-shows (Max e) xs (Totalled n t) b h = absurd h

-- and of all aggregates of a group
values-show : (aggregates : List Aggregate) (xs : Weighted) (kept : List Kept) → IsBag xs → AreKept aggregates xs kept → shown_values aggregates kept ≡ map (λ a. aggregate a xs) aggregates
values-show [] xs [] b h = refl
values-show [] xs (k ∷ kept) b h = absurd h
values-show (a ∷ aggregates) xs [] b h = absurd h
values-show (a ∷ aggregates) xs (k ∷ kept) b h = λ i. kept-shows a xs k b h.0 i ∷ values-show aggregates xs kept b h.1 i

-- so it shows the group's row
pub group-shows : (aggregates : List Aggregate) (k : Row) (xs : Weighted) (group : Group) → IsBag xs → GroupStands aggregates xs group → shown_row aggregates k group.kept ≡ group_row aggregates k xs
group-shows aggregates k xs group b h = ap (λ vs. k ++ vs) (values-show aggregates xs group.kept b h.kept)
