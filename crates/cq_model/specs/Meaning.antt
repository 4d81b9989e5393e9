-- The bag that a query means on the bags of its sources (ISO 9075-2, 7.16).
use Rattle.std.specs.Prelude.{Bool, true, if◌then◌else◌, List, [], ◌∷◌, map, Option, Some, None}
use Rattle.std.specs.List.{list_all}
use Rattle.cq_values.specs.Truth.{is_true}
use Rattle.cq_values.specs.Value.{Row, column}
use Rattle.cq_model_bags.specs.Bag.{Weighted, filtered, projected, joined, distinct}
use Rattle.cq_model.specs.Expr.{Expr, Cond}
use Rattle.cq_model.specs.declared.query.Equality.{Equality}
use Rattle.cq_model.specs.declared.query.Join.{Join}
use Rattle.cq_model.specs.declared.query.Query.{Query}
use Rattle.cq_model.specs.declared.query.Shape.{Shape}
use Rattle.cq_model.specs.declared.query.Shape.TheVariants.{Plain, Grouped}
use Rattle.cq_model.specs.declared.query.Source.{Source}
use Rattle.cq_values.specs.declared.comparison.Comparison.TheVariants.{Equal}
use Rattle.cq_model.specs.Condition.{holds}
use Rattle.cq_model.specs.Eval.{eval}
use Rattle.cq_model.specs.Group.{grouped, SumsInRange}
use Rattle.cq_values.specs.Comparison.{compared}

-- the bag of each table and of each view, by its number
abbrev pub Tables : Type 0
Tables = Source → Weighted

-- two rows go together where each equality of ON is True (7.10)
abbrev pub meets : List Equality → Row → Row → Bool
meets on r s = list_all (λ e. is_true (compared Equal (column r e.left) (column s e.right))) on

-- the rows so far, joined with each source that follows (7.10)
abbrev pub chain : Tables → Weighted → List Join → Weighted
chain tables xs [] = xs
chain tables xs (j ∷ js) = chain tables (joined (meets j.on) xs (tables j.source)) js

-- WHERE and HAVING keep what is True, and every row where absent (7.12, 7.14)
abbrev pub keeps : Option Cond → Row → Bool
keeps None r = true
keeps (Some c) r = is_true (holds c r)

-- the joined rows that WHERE keeps
abbrev pub joined_rows : Query → Tables → Weighted
joined_rows q tables = filtered (keeps q.filter) (chain tables (tables q.first) q.joins)

-- a row of the result: the value of each item in turn
abbrev pub items_of : List Expr → Row → Row
items_of items r = map (λ e. eval e r) items

-- the groups that HAVING keeps, or the rows themselves (7.13, 7.14)
abbrev pub shaped : Shape → Weighted → Weighted
shaped Plain xs = xs
shaped (Grouped keys aggregates having) xs = filtered (keeps having) (grouped keys aggregates xs)

-- the result before DISTINCT, of these joined rows
abbrev pub shown : Query → Weighted → Weighted
shown q xs = projected (items_of q.items) (shaped q.shape xs)

-- the query's bag, worked out from scratch
abbrev pub meaning : Query → Tables → Weighted
meaning q tables =
    let rows = shown q (joined_rows q tables) in if q.distinct then distinct rows else rows

-- in no group is a SUM's total too large to show
abbrev pub ShapeInRange : Shape → Weighted → Type 0
ShapeInRange Plain xs = Unit {0}
ShapeInRange (Grouped keys aggregates having) xs = SumsInRange keys aggregates xs

-- no total of the query is too large to show
abbrev pub MeaningInRange : Query → Tables → Type 0
MeaningInRange q tables = ShapeInRange q.shape (joined_rows q tables)
