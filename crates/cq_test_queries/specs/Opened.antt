-- Queries that the tests open: they can be worked out on all rows, whatever these hold.
use Rattle.std.specs.Prelude.{◌≡◌, ℕ, List, [], ◌∷◌, None}
use Rattle.cq_values.specs.Value.{Row}
use Rattle.cq_hash_groups.specs.Exact.{AreExactOver}
use Rattle.cq_model.specs.Exact.{AreExactAt}
use Rattle.cq_model.specs.declared.query.Query.{Query}
use Rattle.cq_model.specs.declared.query.Shape.{Shape}
use Rattle.cq_model.specs.declared.query.Shape.TheVariants.{Plain, Grouped}
use Rattle.cq_operators_joins.specs.Linked.{IsExactBy}
use Rattle.cq_plan.specs.Chain.{HaveValues}
use Rattle.cq_plan.specs.Planned.{below_of}

-- aggregates can be worked out on each row, and HAVING on what any group shows
abbrev pub IsAlwaysExact : Shape → Type 0
IsAlwaysExact Plain = Unit {0}
IsAlwaysExact (Grouped keys aggregates having) = ((row : Row) → AreExactOver aggregates row) × ((row : Row) → IsExactBy having row)

-- each part of a query can be worked out on each row, and no part of WHERE is asked below joins
pub record IsOpenTo (q : Query) : Type 0 where
  pub below : below_of q ≡ None
  pub filter : (row : Row) → IsExactBy q.filter row
  pub shape : IsAlwaysExact q.shape
  pub items : (row : Row) → AreExactAt q.items row

-- the rows of each source have so many values
abbrev pub HaveWidths : List ℕ → List (List Row) → Type 0
HaveWidths [] [] = Unit {0}
HaveWidths (wide ∷ widths) (rows ∷ others) = HaveValues wide rows × HaveWidths widths others
HaveWidths widths sources = ⊥
