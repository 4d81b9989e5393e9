-- What a view shows of what it keeps behind its joins.
use Rattle.std.specs.Prelude.{◌≡◌, pos, int_lt, if◌then◌else◌, List, [], ◌∷◌, map, Option, Some, None}
use Rattle.cq_values.specs.Value.{Row}
use Rattle.cq_model_bags.specs.Bag.{Weighted, weight_of, once_each, filtered, projected}
use Rattle.cq_model.specs.Expr.{Cond}
use Rattle.cq_model.specs.declared.query.Aggregate.{Aggregate}
use Rattle.cq_model.specs.declared.query.Query.{Query}
use Rattle.cq_model.specs.declared.query.Shape.{Shape}
use Rattle.cq_model.specs.declared.query.Shape.TheVariants.{Plain, Grouped}
use Rattle.cq_views_model.specs.Kept.{Group, Last, Images, Groups, shown_row}
use Rattle.cq_model.specs.Meaning.{keeps, items_of}

-- the rows that are shown of the groups of these keys
abbrev pub shown_groups : Query → List Aggregate → Option Cond → List Row → (Row → Group) → Weighted
shown_groups q aggregates having keys group =
    projected (items_of q.items) (filtered (keeps having) (once_each (map (λ k. shown_row aggregates k (group k).kept) keys)))

-- the rows that are shown; without GROUP BY one group always is
abbrev pub shown_rows : Query → Shape → List Row → Last → Weighted
shown_rows q Plain keys (Images rows) = rows
shown_rows q (Grouped None aggregates having) keys (Groups group) = shown_groups q aggregates having ([] ∷ []) group
shown_rows q (Grouped (Some columns) aggregates having) keys (Groups group) = shown_groups q aggregates having keys group
shown_rows q shape keys last = []

-- each key whose rows are counted stands in the list once, and no other
abbrev pub ListsKeys : List Row → Last → Type 0
ListsKeys keys (Images rows) = Unit {0}
ListsKeys keys (Groups group) = (k : Row) → weight_of (once_each keys) k ≡ (if int_lt (pos 0) (group k).count then pos 1 else pos 0)
