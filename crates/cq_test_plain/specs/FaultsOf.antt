-- What a fault tells of what was worked out: that it is too wide, or that a total of it is out of range.
use Rattle.std.specs.Prelude.{ℕ, List, Option}
use Rattle.std.specs.List.{Any}
use Rattle.cq_values.specs.Value.{Row}
use Rattle.cq_model_bags.specs.Bag.{Weighted, once_each}
use Rattle.cq_model.specs.declared.assignment.Assignment.{Assignment}
use Rattle.cq_model.specs.declared.query.Aggregate.{Aggregate}
use Rattle.cq_model.specs.declared.query.Query.{Query}
use Rattle.cq_model.specs.declared.query.Shape.{Shape}
use Rattle.cq_model.specs.Expr.{Cond}
use Rattle.cq_model.specs.Group.{SumInRange}
use Rattle.cq_model.specs.Meaning.{MeaningInRange, ShapeInRange, Tables}
use Rattle.cq_model.specs.Views.{sources_of}
use Rattle.cq_test_plain.specs.declared.database.Database.{Database}
use Rattle.cq_test_plain.specs.declared.fault.PlainFault.{PlainFault}
use Rattle.cq_test_plain.specs.Databases.{IsInRange, SourcesInRange}
use Rattle.cq_test_plain.specs.Faults.{Tells}
use Rattle.cq_test_plain.specs.Named.{IsNamed}
use Rattle.cq_test_plain.specs.OfGroups.{GroupInRange, GroupsInRange, KeyInRange}
use Rattle.cq_test_plain.specs.Stored.{query_at, rows_at}
use Rattle.cq_test_plain.specs.Wide.{IsAnswerWide, IsFilterWide, IsQueryWide, IsShapeWide, IsShownWide, IsSourceWide, IsWideOver}
use Rattle.cq_test_plain.specs.WideWrites.{IsUpdateWide}

-- of an aggregate over rows
abbrev pub IsAggregateFault : Aggregate → List Row → PlainFault → Type 0
IsAggregateFault a rows = Tells (IsWideOver (once_each rows) a) (SumInRange a (once_each rows) → ⊥)

-- of a group
abbrev pub IsGroupFault : List Aggregate → List Row → PlainFault → Type 0
IsGroupFault aggregates rows = Tells (Any (IsWideOver (once_each rows)) aggregates) (GroupInRange aggregates (once_each rows) → ⊥)

-- of the group of a key among these rows
abbrev pub IsKeyFault : List ℕ → List Aggregate → Row → List Row → PlainFault → Type 0
IsKeyFault columns aggregates key rows = Tells (Any (IsWideOver (once_each rows)) aggregates) (KeyInRange columns aggregates key rows → ⊥)

-- of the groups of rows
abbrev pub IsGroupsFault : Option (List ℕ) → List Aggregate → List Row → PlainFault → Type 0
IsGroupsFault keys aggregates rows = Tells (Any (IsWideOver (once_each rows)) aggregates) (GroupsInRange keys aggregates rows → ⊥)

-- of groups and HAVING
abbrev pub IsShapeFault : Shape → Weighted → PlainFault → Type 0
IsShapeFault shape xs = Tells (IsShapeWide shape xs) (ShapeInRange shape xs → ⊥)

-- of what a query shows of its joined rows
abbrev pub IsShownFault : Query → Weighted → PlainFault → Type 0
IsShownFault q xs = Tells (IsShownWide q xs) (ShapeInRange q.shape xs → ⊥)

-- of WHERE
abbrev pub IsFilterFault : Query → Tables → PlainFault → Type 0
IsFilterFault q tables = Tells (IsFilterWide q tables) ⊥

-- of a query
abbrev pub IsQueryFault : Query → Tables → PlainFault → Type 0
IsQueryFault q tables = Tells (IsQueryWide q tables) (MeaningInRange q tables → ⊥)

-- of the query of a view that FROM names
abbrev pub IsNamedFault : Query → ℕ → Query → Tables → PlainFault → Type 0
IsNamedFault q at view tables = Tells (IsNamed q at × IsQueryWide view tables) (IsNamed q at × (MeaningInRange view tables → ⊥))

-- of the views that FROM names
abbrev pub IsSourcesFault : Database → Query → PlainFault → Type 0
IsSourcesFault database q =
    Tells (Any (IsSourceWide (rows_at database.tables) (query_at database.views)) (sources_of q)) (SourcesInRange database q → ⊥)

-- of an answer
abbrev pub IsAnswerFault : Database → Query → PlainFault → Type 0
IsAnswerFault database q = Tells (IsAnswerWide (rows_at database.tables) (query_at database.views) q) (IsInRange database q → ⊥)

-- of an UPDATE of rows
abbrev pub IsUpdateFault : List Assignment → Option Cond → List Row → PlainFault → Type 0
IsUpdateFault assignments condition rows = Tells (Any (IsUpdateWide assignments condition) rows) ⊥
