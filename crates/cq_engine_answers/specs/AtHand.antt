-- Views that have the answer to a query at hand, and the queries for all that they show.
use Rattle.std.specs.Prelude.{◌≡◌, ℕ, Bool, List, [], None, Some, length, slice_get}
use Rattle.cq_model.specs.Expr.{Expr}
use Rattle.cq_model.specs.declared.query.Query.{Query}
use Rattle.cq_model.specs.declared.query.Shape.TheVariants.{Plain}
use Rattle.cq_model.specs.declared.query.Source.TheVariants.{View}
use Rattle.cq_model_core.specs.Core.{HasCoreOf}
use Rattle.cq_model_state.specs.State.{TableOf}
use Rattle.cq_engine_tables.specs.Views.{IsPresent, NamedView}
use Rattle.cq_views_state.specs.WholeRows.{AreColumns}

-- the view at a place is at the present, and the query has its core
pub record IsAtHand (tables : List TableOf) (views : List NamedView) (q : Query) (place : ℕ) : Type 0 where
  pub view : NamedView
  pub there : slice_get views place ≡ Some view
  pub present : IsPresent tables view
  pub core : HasCoreOf q view.kept.query

-- the items are so many columns, each at its place
pub record AreAllColumns (wide : ℕ) (items : List Expr) : Type 0 where
  pub columns : AreColumns items
  pub count : length items ≡ wide

-- the query for these items of the rows of the view at a place
abbrev pub of_view : ℕ → List Expr → Bool → Query
of_view place items distinct = record { first = View place; joins = []; filter = None; shape = Plain; items = items; distinct = distinct }

-- the query shows so many columns of the view at a place, with DISTINCT or without
pub record ShowsColumns (place wide : ℕ) (distinct : Bool) (q : Query) : Type 0 where
  pub is : q ≡ of_view place q.items distinct
  pub items : AreAllColumns wide q.items
