-- Queries that can be read from the tables and views that they name.
use Rattle.std.specs.Prelude.{◌<◌, ◌≡◌, false, List, [], length, Option, None, Some, slice_get}
use Rattle.std.specs.List.{AllByRecursion}
use Rattle.cq_model.specs.Expr.{Cond, Expr}
use Rattle.cq_model.specs.declared.query.Query.{Query}
use Rattle.cq_model.specs.declared.query.Shape.TheVariants.{Plain}
use Rattle.cq_model.specs.declared.query.Source.{Source}
use Rattle.cq_model.specs.declared.query.Source.TheVariants.{Table, View}
use Rattle.cq_model.specs.Views.{sources_of}
use Rattle.cq_model_state.specs.State.{IsThere, TableOf, ViewOf}
use Rattle.cq_engine_tables.specs.Views.{IsPresent, NamedView}
use Rattle.cq_engine_answers.specs.Narrow.{IsConditionSized, IsShapeSized, joined_sizes}

-- what items show of the rows of one source that WHERE keeps
abbrev pub plain : Source → Option Cond → List Expr → Query
plain source filter items = record { first = source; joins = []; filter = filter; shape = Plain; items = items; distinct = false }

-- each row of the one source is shown
abbrev pub ShowsEachRow : Query → Type 0
ShowsEachRow q = (q ≡ plain q.first q.filter q.items) × (q.filter ≡ None)

-- a table has the number, or a view the place, that a name in FROM stands for
abbrev pub IsSourceThere : List TableOf → List ViewOf → Source → Type 0
IsSourceThere tables views (Table n) = IsThere n tables
IsSourceThere tables views (View place) = place < length views

-- so it is with each of these sources that is a table
abbrev pub AreTablesThere : List TableOf → List Source → Type 0
AreTablesThere tables sources = (views : List ViewOf) × AllByRecursion (IsSourceThere tables views) sources

-- and with each that is a view
abbrev pub AreViewsThere : List ViewOf → List Source → Type 0
AreViewsThere views sources = (tables : List TableOf) × AllByRecursion (IsSourceThere tables views) sources

-- a query whose sources are there, and that can be worked out on each row that joins rows of them, and on their groups
pub record CanRead (tables : List TableOf) (views : List ViewOf) (q : Query) : Type 0 where
  pub there : AllByRecursion (IsSourceThere tables views) (sources_of q)
  pub filter : IsConditionSized (joined_sizes tables views q) q.filter
  pub shown : IsShapeSized (joined_sizes tables views q) q.shape q.items

-- a view that a name in FROM stands for is at the present
abbrev pub IsReadable : List TableOf → List NamedView → Source → Type 0
IsReadable tables views (Table n) = Unit {0}
IsReadable tables views (View place) = (v : NamedView) → slice_get views place ≡ Some v → IsPresent tables v

-- so it is with each view that a query names
abbrev pub AreReadable : List TableOf → List NamedView → Query → Type 0
AreReadable tables views q = AllByRecursion (IsReadable tables views) (sources_of q)
