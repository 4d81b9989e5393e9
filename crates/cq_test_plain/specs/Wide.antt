-- Where a query meets a number, written or worked out, that does not fit 127 bits and a sign.
use Rattle.std.specs.Prelude.{ℕ, ◌≤◌, pos, ◌≤ℤ◌, ◌<ℤ◌, List, Option, Some, None, ◌⊎◌}
use Rattle.std.specs.List.{Any}
use Rattle.cq_values.specs.Value.{Row}
use Rattle.cq_model_bags.specs.Bag.{Weighted, weight_of}
use Rattle.cq_model.specs.Expr.{Expr, Cond}
use Rattle.cq_model.specs.declared.query.Aggregate.{Aggregate}
use Rattle.cq_model.specs.declared.query.Aggregate.TheVariants.{CountAll, Count, CountDistinct, Sum, Min, Max}
use Rattle.cq_model.specs.declared.query.Query.{Query}
use Rattle.cq_model.specs.declared.query.Shape.{Shape}
use Rattle.cq_model.specs.declared.query.Shape.TheVariants.{Plain, Grouped}
use Rattle.cq_model.specs.declared.query.Source.{Source}
use Rattle.cq_model.specs.declared.query.Source.TheVariants.{Table, View}
use Rattle.cq_model.specs.Group.{SumsInRange, count_all, grouped}
use Rattle.cq_model.specs.Meaning.{ShapeInRange, Tables, joined_rows, shaped}
use Rattle.cq_model.specs.Sizes.{count_size}
use Rattle.cq_model.specs.Views.{tables_alone, with_views, sources_of}
use Rattle.cq_model.specs.Width.{extent, number_limit, widest_at}
use Rattle.cq_test_plain.specs.Joins.{all_joined}

-- in this row some number is too wide that is written or worked out on the way to the expression's value
abbrev pub IsWideAt : Expr → Row → Type 0
IsWideAt e row = number_limit ≤ (extent e row).widest

-- in this row some number written or worked out in the condition is too wide
abbrev pub IsWideIn : Option Cond → Row → Type 0
IsWideIn None row = ⊥
IsWideIn (Some c) row = number_limit ≤ widest_at c row

-- a row is there for which this holds
abbrev pub AtSomeRow : (Row → Type 0) → Weighted → Type 0
AtSomeRow P xs = (row : Row) × (pos 0 <ℤ weight_of xs row) × P row

-- a condition is too wide in some row
abbrev pub IsWideAmong : Option Cond → Weighted → Type 0
IsWideAmong condition xs = AtSomeRow (IsWideIn condition) xs

-- one of several items is too wide in some row
abbrev pub IsItemWide : List Expr → Weighted → Type 0
IsItemWide items xs = Any (λ e. AtSomeRow (IsWideAt e) xs) items

-- the argument of an aggregate is too wide in some row
abbrev pub IsWideOver : Weighted → Aggregate → Type 0
IsWideOver xs CountAll = ⊥
IsWideOver xs (Count e) = AtSomeRow (IsWideAt e) xs
IsWideOver xs (CountDistinct e) = AtSomeRow (IsWideAt e) xs
IsWideOver xs (Sum e) = AtSomeRow (IsWideAt e) xs
IsWideOver xs (Min e) = AtSomeRow (IsWideAt e) xs
IsWideOver xs (Max e) = AtSomeRow (IsWideAt e) xs

-- there are not too many rows to be counted
abbrev pub IsCountable : Weighted → Type 0
IsCountable xs = count_all xs ≤ℤ pos count_size

-- the rows can be counted and their totals shown, and HAVING is too wide in some group
abbrev pub IsHavingWide : Option (List ℕ) → List Aggregate → Option Cond → Weighted → Type 0
IsHavingWide keys aggregates having xs =
    IsCountable xs × SumsInRange keys aggregates xs × IsWideAmong having (grouped keys aggregates xs)

-- an aggregate over these rows is too wide, or HAVING over their groups
abbrev pub IsShapeWide : Shape → Weighted → Type 0
IsShapeWide Plain xs = ⊥
IsShapeWide (Grouped keys aggregates having) xs = Any (IsWideOver xs) aggregates ⊎ IsHavingWide keys aggregates having xs

-- the rows can be counted and all totals shown, and an item is too wide in some row that the query shows
abbrev pub AreItemsWide : Query → Weighted → Type 0
AreItemsWide q xs = IsCountable xs × ShapeInRange q.shape xs × IsItemWide q.items (shaped q.shape xs)

-- an aggregate, HAVING or an item is too wide over these joined rows
abbrev pub IsShownWide : Query → Weighted → Type 0
IsShownWide q xs = IsShapeWide q.shape xs ⊎ AreItemsWide q xs

-- WHERE is too wide in a row that it tests
abbrev pub IsFilterWide : Query → Tables → Type 0
IsFilterWide q tables = IsWideAmong q.filter (all_joined q tables)

-- a query is too wide in WHERE, or over the rows that WHERE keeps
abbrev pub IsQueryWide : Query → Tables → Type 0
IsQueryWide q tables = IsFilterWide q tables ⊎ IsShownWide q (joined_rows q tables)

-- the query of a view is too wide
abbrev pub IsViewWide : (ℕ → Weighted) → Option Query → Type 0
IsViewWide tables None = ⊥
IsViewWide tables (Some q) = IsQueryWide q (tables_alone tables)

-- a source is a view whose query is too wide
abbrev pub IsSourceWide : (ℕ → Weighted) → (ℕ → Option Query) → Source → Type 0
IsSourceWide tables queries (Table t) = ⊥
IsSourceWide tables queries (View v) = IsViewWide tables (queries v)

-- a query is too wide itself, or a view that FROM names
abbrev pub IsAnswerWide : (ℕ → Weighted) → (ℕ → Option Query) → Query → Type 0
IsAnswerWide tables queries q = IsQueryWide q (with_views tables queries) ⊎ Any (IsSourceWide tables queries) (sources_of q)
