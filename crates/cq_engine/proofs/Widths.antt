-- What has no fault reads columns that are there: sizes that agree on these are sizes that it cannot tell apart.
use Rattle.std.proofs.Common.{◌≡◌, ℕ, ◌<◌, List, [], ◌∷◌, length, None, Result, Ok, refl, sym, ap, ap₂, subst}
use Rattle.std.specs.List.{AllByRecursion, fold}
use Rattle.cq_values.specs.declared.day_part.DayPart.{DayPart}
use Rattle.cq_sql_language.specs.declared.written.AggregateFunction.{AggregateFunction}
use Rattle.cq_sql_language.specs.declared.written.AggregateFunction.TheVariants as functions
use Rattle.cq_sql_language.specs.declared.written.ColumnName.{ColumnName}
use Rattle.cq_sql_language.specs.Written.{Written, Column, Extract, CountAll, Aggregate, Parens, Negative, Times, Plus, Minus}
use Rattle.cq_model.specs.declared.query.Aggregate.{Aggregate as Shown}
use Rattle.cq_model.specs.declared.query.Aggregate.TheVariants as shown
use Rattle.cq_model.specs.Sizes.{aggregate_size}
use Rattle.cq_model.specs.Width.{Extent, extent_of, extent_plus, extent_times, part_limit, width}
use Rattle.cq_binder_rules.specs.declared.fault.Fault.{Fault}
use Rattle.cq_binder_rules.specs.declared.typing.Typing.{Typing}
use Rattle.cq_binder_rules.specs.Checks.{first_fault}
use Rattle.cq_binder_rules.specs.Kinds.{◌and_then◌, aggregated, negative, part_of, product_of, sum_of}
use Rattle.cq_binder_rules.specs.Placed.{aggregate_of, placed_expr, with_aggregates}
use Rattle.cq_binder_rules.specs.Places.{row_place}
use Rattle.cq_binder_rules.specs.Scopes.{of_rows}
use Rattle.cq_binder_rules.specs.Typing.{Scope, ScopeColumn, column_typing, of_group, resolved, rows_in, typed}
use Rattle.cq_binder_expressions.proofs.Passed.{resolved_at, resolved_within}
use Rattle.cq_engine.proofs.Fitting.{item_stands, items_walk, others_free}
use Rattle.cq_binder_expressions.proofs.Told.{all_told, stood}

-- the extent of a column of this size
abbrev column_extent : ℕ → Extent
column_extent size = record { size = size; widest = 0 }

-- of a part of a day
abbrev part_extent : DayPart → Extent → Extent
part_extent part x = record { size = part_limit part; widest = x.widest }

-- and of minus a number
abbrev negated : Extent → Extent
negated x = extent_of x.size x.widest

-- ---- Over rows
module _ (columns : List ScopeColumn) (f g : ℕ → ℕ) (same : (place : ℕ) → place < length columns → f place ≡ g place) where
  abbrev s : Scope
  s = of_rows columns

  -- a column that a name means is there
  same_column : (c : ColumnName) (t : Typing) → typed s (Column c) ≡ Ok t
      → f (row_place columns c) ≡ g (row_place columns c)
  same_column c t e =
      let p = stood (resolved columns c) (column_typing s) t e in
      let at = resolved_at s c p.0 p.1 in
      subst (λ (place : ℕ). f place ≡ g place) (sym at) (same p.0 (resolved_within s c p.0 p.1))

  -- so an expression is as wide over both
  same_width : (before : List Shown) (w : Written) (t : Typing) → typed s w ≡ Ok t
      → width (placed_expr s before w) f ≡ width (placed_expr s before w) g
  same_width before (Column c) t e = ap column_extent (same_column c t e)
  same_width before (Extract part a) t e =
      let p = stood (typed s a) (part_of part) t e in
      ap (part_extent part) (same_width before a p.0 p.1)
  same_width before CountAll t e = absurd (cc e)
  same_width before (Aggregate function a) t e =
      let p = stood (typed s a and_then aggregated function) (of_group s) t e in
      absurd (cc p.2)
  same_width before (Parens a) t e = same_width before a t e
  same_width before (Negative a) t e =
      let p = stood (typed s a) negative t e in
      ap negated (same_width before a p.0 p.1)
  same_width before (Times a b) t e =
      let p = stood (typed s a) (λ x. typed s b and_then product_of x) t e in
      let q = stood (typed s b) (product_of p.0) t p.2 in
      ap₂ extent_times (same_width before a p.0 p.1) (same_width (with_aggregates s before a) b q.0 q.1)
  same_width before (Plus a b) t e =
      let p = stood (typed s a) (λ x. typed s b and_then sum_of x) t e in
      let q = stood (typed s b) (sum_of p.0) t p.2 in
      ap₂ extent_plus (same_width before a p.0 p.1) (same_width (with_aggregates s before a) b q.0 q.1)
  same_width before (Minus a b) t e =
      let p = stood (typed s a) (λ x. typed s b and_then sum_of x) t e in
      let q = stood (typed s b) (sum_of p.0) t p.2 in
      ap₂ (λ (x y : Extent). extent_plus x (negated y)) (same_width before a p.0 p.1)
      (same_width (with_aggregates s before a) b q.0 q.1)
  same_width before w t e = refl

  -- and what is told of rows by its argument is as large
  abbrev told_of : AggregateFunction → Written → Shown
  told_of function a = aggregate_of function (placed_expr s [] a)

  pub same_told : (function : AggregateFunction) (a : Written) (t : Typing) → typed s a ≡ Ok t
      → aggregate_size f (told_of function a) ≡ aggregate_size g (told_of function a)
  same_told functions.Count a t e = refl
  same_told functions.CountDistinct a t e = refl
  same_told functions.Sum a t e = refl
  same_told functions.Min a t e = ap (λ (x : Extent). x.size) (same_width [] a t e)
  same_told functions.Max a t e = ap (λ (x : Extent). x.size) (same_width [] a t e)

-- ---- The aggregates in what has no fault
module _ (s : Scope) (P : Shown → Type 0) (count : P shown.CountAll) (told : (function : AggregateFunction) (a : Written) (t : Typing) → typed (rows_in s) a ≡ Ok t → P (aggregate_of function (placed_expr (rows_in s) [] a))) where
  abbrev AreAll : List Shown → Type 0
  AreAll aggregates = AllByRecursion P aggregates

  -- what holds of COUNT of all rows, and of each of an argument without a fault, holds of all in several items without a fault
  pub items_told : (ask : Typing → Result Typing Fault) (before : List Shown) (ws : List Written)
      → first_fault (items_walk ask s ws) ≡ None → AreAll before → AreAll (fold (with_aggregates s) before ws)
  items_told ask before [] free all = all
  items_told ask before (w ∷ ws) free all =
      let p = item_stands ask s w ws free in
      items_told ask (with_aggregates s before w) ws (others_free ask s w ws free) (all_told s P count told before w p.0 p.1 all)
