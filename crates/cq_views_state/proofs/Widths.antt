-- What is worked out in a row whose columns are within sizes is no wider than over columns of these sizes.
use Rattle.std.proofs.Common.{◌≡◌, ℕ, ◌<◌, ◌^◌, List, [], ◌∷◌, ◌++◌, map, Option, refl, sym, subst, arith}
use Rattle.std.specs.List.{AllByRecursion}
use Rattle.cq_values.specs.Value.{Row}
use Rattle.cq_model.proofs.Extents.{value-within}
use Rattle.cq_model.specs.Expr.{Cond, Expr}
use Rattle.cq_model.specs.Meaning.{items_of}
use Rattle.cq_model.specs.Sizes.{IsArgumentNarrow, IsSized, IsStored, row_size, shown_size, stored_size}
use Rattle.cq_model.specs.Width.{AreNarrowAt, IsNarrowAt, limits_of, sizes_of, widest, width}
use Rattle.cq_model.specs.declared.query.Aggregate.{Aggregate}
use Rattle.cq_model.specs.declared.query.Aggregate.TheVariants.{CountAll, Count, CountDistinct, Sum, Min, Max}
use Rattle.cq_model.specs.declared.query.Query.{Query}
use Rattle.cq_model.specs.declared.query.Shape.{Shape}
use Rattle.cq_model.specs.declared.query.Shape.TheVariants.{Grouped}
use Rattle.cq_deltas.specs.Additions.{IsNarrow}
use Rattle.cq_model_laws.proofs.Columns.{sizes-beside}
use Rattle.cq_model_laws.proofs.Fits.{FitBeside}
use Rattle.cq_model_laws.specs.Sizes.{HasSizes}
use Rattle.cq_views_model.specs.Query.{aggregates_in, group_sizes, keys_in}
use Rattle.cq_model_eval.proofs.Limits.{width_grows}

module _ (sizes : ℕ → ℕ) (row : Row) (sized : IsSized sizes row) where
  -- what is narrow over these sizes is narrow at the row
  expr-narrow : (e : Expr) → widest sizes e < 2 ^ 127 → IsNarrowAt e row
  expr-narrow e narrow = omega (arith, narrow, (width_grows (sizes_of row) sizes sized e).widest)

  -- so are items
  pub items-narrow : (items : List Expr) → AllByRecursion (λ e. widest sizes e < 2 ^ 127) items → AreNarrowAt items row
  items-narrow [] narrow = tt
  items-narrow (e ∷ items) narrow = (expr-narrow e narrow.0, items-narrow items narrow.1)

  -- their values are within what they can be
  items-fit : (items : List Expr) → FitBeside (items_of items row) (map (λ e. (width e sizes).size) items)
  items-fit [] = tt
  items-fit (e ∷ items) = (value-within row sizes sized e, items-fit items)

  pub items-sized : (items : List Expr) → HasSizes (map (λ e. (width e sizes).size) items) (items_of items row)
  items-sized items = sizes-beside (items_of items row) (map (λ e. (width e sizes).size) items) (items-fit items)

-- ---- at a stored row
module _ (row : Row) (stored : IsStored row) where
  argument-narrow : (a : Aggregate) → IsArgumentNarrow (λ i. stored_size) a → IsNarrow row a
  argument-narrow CountAll narrow = tt
  argument-narrow (Count e) narrow = expr-narrow (λ i. stored_size) row stored e narrow
  argument-narrow (CountDistinct e) narrow = expr-narrow (λ i. stored_size) row stored e narrow
  argument-narrow (Sum e) narrow = expr-narrow (λ i. stored_size) row stored e narrow
  argument-narrow (Min e) narrow = expr-narrow (λ i. stored_size) row stored e narrow
  argument-narrow (Max e) narrow = expr-narrow (λ i. stored_size) row stored e narrow

  -- arguments that are narrow over stored columns are narrow
  pub arguments-narrow : (aggregates : List Aggregate) → AllByRecursion (IsArgumentNarrow (λ i. stored_size)) aggregates
      → AllByRecursion (IsNarrow row) aggregates
  arguments-narrow [] narrow = tt
  arguments-narrow (a ∷ aggregates) narrow = (argument-narrow a narrow.0, arguments-narrow aggregates narrow.1)

-- ---- over the rows of groups
-- the columns that items of a grouped query read are those of its groups
pub group-columns : (query : Query) (keys : Option (List ℕ)) (aggregates : List Aggregate) (having : Option Cond)
    → query.shape ≡ Grouped keys aggregates having → row_size query.shape ≡ limits_of (group_sizes query)
group-columns query keys aggregates having is =
    subst (λ (s : Shape). row_size s ≡ limits_of (map (λ k. stored_size) (keys_in s) ++ map shown_size (aggregates_in s))) (sym is) refl
