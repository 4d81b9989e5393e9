-- Queries that can be worked out on rows.
use Rattle.std.specs.Prelude.{ℕ, List, [], Option, Some, None, length, map, slice_get}
use Rattle.std.specs.List.{AllByRecursion, flat_map}
use Rattle.cq_values.specs.Value.{Row}
use Rattle.cq_model_laws.specs.Sizes.{grouped_sizes}
use Rattle.cq_model.specs.Sizes.{IsArgumentNarrow, IsSized, column_sizes, stored_sizes}
use Rattle.cq_model.specs.Expr.{Cond, Expr}
use Rattle.cq_model.specs.declared.query.Aggregate.{Aggregate}
use Rattle.cq_model.specs.declared.query.Query.{Query}
use Rattle.cq_model.specs.declared.query.Shape.{Shape}
use Rattle.cq_model.specs.declared.query.Shape.TheVariants.{Plain, Grouped}
use Rattle.cq_model.specs.declared.query.Source.{Source}
use Rattle.cq_model.specs.declared.query.Source.TheVariants.{Table, View}
use Rattle.cq_model.specs.Views.{sources_of}
use Rattle.cq_model.specs.Width.{AreNarrowAt, IsNarrowIn, limits_of, sizes_of}
use Rattle.cq_model_state.specs.State.{TableOf, ViewOf, columns_in}

-- a condition that can be worked out on each row with numbers of these sizes
abbrev pub IsConditionSized : List ℕ → Option Cond → Type 0
IsConditionSized sizes condition = (row : Row) → IsSized (limits_of sizes) row → IsNarrowIn condition row

-- items that can be worked out on each of them
abbrev pub AreItemsSized : List ℕ → List Expr → Type 0
AreItemsSized sizes items = (row : Row) → IsSized (limits_of sizes) row → AreNarrowAt items row

-- aggregates whose arguments can be worked out on each of them
abbrev pub AreArgumentsSized : List ℕ → List Aggregate → Type 0
AreArgumentsSized sizes aggregates =
    (row : Row) → IsSized (limits_of sizes) row → AllByRecursion (IsArgumentNarrow (sizes_of row)) aggregates

-- items, and HAVING, that can be worked out on the rows that rows with numbers of these sizes become
abbrev pub IsShapeSized : List ℕ → Shape → List Expr → Type 0
IsShapeSized sizes Plain items = AreItemsSized sizes items
IsShapeSized sizes (Grouped keys aggregates having) items =
    let shown = grouped_sizes sizes keys aggregates in
    AreArgumentsSized sizes aggregates × IsConditionSized shown having × AreItemsSized shown items

-- the sizes of the columns of a view, if there is one
abbrev pub view_sizes : Option ViewOf → List ℕ
view_sizes None = []
view_sizes (Some v) = column_sizes v.query

-- the sizes of the columns of what a name in FROM stands for
abbrev pub source_sizes : List TableOf → List ViewOf → Source → List ℕ
source_sizes tables views (Table n) = stored_sizes (columns_in tables n)
source_sizes tables views (View place) = view_sizes (slice_get views place)

-- the sizes of the columns of all that FROM names, one source behind the other
abbrev pub joined_sizes : List TableOf → List ViewOf → Query → List ℕ
joined_sizes tables views q = flat_map (source_sizes tables views) (sources_of q)

-- how many columns each of these has
abbrev pub source_widths : List TableOf → List ViewOf → List Source → List ℕ
source_widths tables views sources = map (λ s. length (source_sizes tables views s)) sources
