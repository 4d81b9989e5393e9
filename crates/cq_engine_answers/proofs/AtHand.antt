-- The rows of a view whose core a query has are what the query means.
use Rattle.std.proofs.Common.{◌≡◌, ◌∙◌, ◌+◌, ◌<◌, ℕ, zero, suc, Bool, true, List, [], ◌∷◌, ◌++◌, length, Some, None, Result, Ok, Err, inl, inr, refl, sym, ap, subst, arith}
use Rattle.std.specs.Prelude.{if◌then◌else◌, nat_lt, slice_get}
use Rattle.std.proofs.lemmas.Bool.{ltb-false, ltb-true}
use Rattle.std.proofs.lemmas.List.{length-map, length_push}
use Rattle.std.proofs.lemmas.Option.{get_or_from_slice_get}
use Rattle.cq_values.specs.Value.{Row}
use Rattle.cq_model_bags.specs.Bag.{Weighted, distinct, filtered, projected}
use Rattle.cq_model_bags.proofs.Lists.{all-listed}
use Rattle.cq_model_bags.proofs.Totals.{by_test}
use Rattle.cq_binder_queries.specs.Catalog.{alone}
use Rattle.cq_binder_rules.specs.declared.fault.Fault.{Fault}
use Rattle.cq_model.specs.Expr.{Expr, Column}
use Rattle.cq_model.specs.Eval.{eval}
use Rattle.cq_model.specs.Meaning.{items_of, joined_rows, keeps, meaning, shaped, shown}
use Rattle.cq_model.specs.Views.{ViewInRange, tables_alone, view_bag}
use Rattle.cq_model.specs.Width.{IsNarrowAt}
use Rattle.cq_model.specs.declared.query.Order.{Order}
use Rattle.cq_model.specs.declared.query.Query.{Query}
use Rattle.cq_model_core.specs.Core.{HasCoreOf}
use Rattle.cq_model_core.specs.Laws.{AnswersAs, CoreAnswers}
use Rattle.cq_model_state.specs.State.{TableOf, ViewOf, queries_of, tables_now}
use Rattle.cq_views_model.specs.Query.{CanBeKept}
use Rattle.cq_views_state.proofs.WholeRows.{shown-where}
use Rattle.cq_views_state.specs.WholeRows.{AreColumns}
use Rattle.cq_engine_answers.specs.AtHand.{AreAllColumns, of_view}
use Rattle.cq_engine_answers.specs.Narrow.{AreItemsSized}
use Rattle.cq_engine_answers.specs.Selects.{AreListed, IsInRange, Selects, sources_in}

-- ---- Items that are columns
-- nothing is worked out for them
pub columns-narrow : (sizes : List ℕ) (items : List Expr) → AreColumns items → AreItemsSized sizes items
columns-narrow sizes items are row sized = all-listed (λ e. IsNarrowAt e row) items (λ i d inside. subst (λ (e : Expr). IsNarrowAt e row) (sym (get_or_from_slice_get items i (Column i) d (are i inside))) (omega arith))

-- one more behind them
at-front : {X : Type 0} (xs : List X) (x : X) (i : ℕ) → i < length xs → slice_get (xs ++ x ∷ []) i ≡ slice_get xs i
at-front [] x i h = absurd (omega (arith, h))
at-front (y ∷ ys) x zero h = refl
at-front (y ∷ ys) x (suc i) h = at-front ys x i (omega (arith, h))

at-end : {X : Type 0} (xs : List X) (x : X) → slice_get (xs ++ x ∷ []) (length xs) ≡ Some x
at-end [] x = refl
at-end (y ∷ ys) x = at-end ys x

pub none-yet : AreAllColumns 0 []
none-yet = record { columns = λ i h. absurd (omega (arith, h)); count = refl }

pub one-more : (n : ℕ) (items : List Expr) → AreAllColumns n items → AreAllColumns (n + 1) (items ++ Column n ∷ [])
one-more n items all = record {
  columns = λ i h. by_test (nat_lt i (length items))
      (λ k. at-front items (Column n) i (ltb-true i (length items) k) ∙ all.columns i (ltb-true i (length items) k))
      (λ k.
      let past = ltb-false i (length items) k in
      let last : length items ≡ i = omega (arith, past, h, length_push items (Column n)) in
      let here : n ≡ i = sym all.count ∙ last in
      subst (λ (j : ℕ). slice_get (items ++ Column n ∷ []) j ≡ Some (Column i)) last (at-end items (Column n) ∙ ap (λ (j : ℕ). Some (Column j)) here));
  count = length_push items (Column n) ∙ ap (λ (m : ℕ). m + 1) all.count;
}

module _ (items : List Expr) (are : AreColumns items) where
  -- they show a row of as many values as it is
  shows-row : (r : Row) → length r ≡ length items → items_of items r ≡ r
  shows-row r wide = let one : items_of items r ∷ [] ≡ r ∷ [] = shown-where items are (r ∷ []) true (wide, tt) in cc one

  shows-all : (f : Row → Row) → ((r : Row) → length (f r) ≡ length items) → (xs : Weighted) → projected (items_of items) (projected f xs) ≡ projected f xs
  shows-all f wide [] = refl
  shows-all f wide (x ∷ xs) = λ i. (shows-row (f x.0) (wide x.0) i, x.1) ∷ shows-all f wide xs i

-- without WHERE each row is kept
kept-all : (xs : Weighted) → filtered (keeps None) xs ≡ xs
kept-all [] = refl
kept-all (x ∷ xs) = ap (λ (ys : Weighted). x ∷ ys) (kept-all xs)

-- ---- The rows of a view
module _ (law : CoreAnswers) (tables : List TableOf) (views : List ViewOf) (place : ℕ) (items : List Expr) (are : AreColumns items) (q view : Query)
    (there : queries_of (alone tables views) place ≡ Some view) (core : HasCoreOf q view) (can : CanBeKept view) (wide : length items ≡ length view.items) where
  abbrev bags : ℕ → Weighted
  bags = tables_now (alone tables views)

  abbrev whole : Query
  whole = of_view place items q.distinct

  answers : AnswersAs bags (queries_of (alone tables views)) q view
  answers = law bags (queries_of (alone tables views)) q view core can

  -- its rows have a value for each of its items
  view-shows : view_bag bags (Some view) ≡ shown view (joined_rows view (tables_alone bags))
  view-shows = ap (λ (b : Bool). if b then distinct (shown view (joined_rows view (tables_alone bags))) else shown view (joined_rows view (tables_alone bags))) can.each

  whole-rows : projected (items_of items) (filtered (keeps None) (view_bag bags (queries_of (alone tables views) place))) ≡ view_bag bags (Some view)
  whole-rows =
      ap (projected (items_of items)) (kept-all (view_bag bags (queries_of (alone tables views) place)) ∙ ap (view_bag bags) there ∙ view-shows)
      ∙ shows-all items are (items_of view.items) (λ r. length-map view.items (λ (e : Expr). eval e r) ∙ sym wide) (shaped view.shape (joined_rows view (tables_alone bags)))
      ∙ sym view-shows

  -- so all of its columns are what the query means
  means-whole : meaning whole (sources_in tables views) ≡ meaning q (sources_in tables views)
  means-whole = ap (λ (xs : Weighted). if q.distinct then distinct xs else xs) whole-rows ∙ sym answers.bag

  -- and the same totals can be shown
  range-to : IsInRange tables views whole → IsInRange tables views q
  range-to r = answers.range.1 (subst (ViewInRange bags) there r.named.0)

  range-from : IsInRange tables views q → IsInRange tables views whole
  range-from r = record { own = tt; named = (subst (ViewInRange bags) (sym there) (answers.range.0 r), tt) }

  pub selects-at_hand : (order : Order) (result : Result (List Row) Fault) → Selects tables views whole order result → Selects tables views q order result
  selects-at_hand order (Ok rows) s = (subst (λ (bag : Weighted). AreListed order bag rows) means-whole s.0, range-to s.1)
  selects-at_hand order (Err f) (inl m) = inl m
  selects-at_hand order (Err f) (inr w) = inr (w.0, λ r. w.1 (range-from r))
