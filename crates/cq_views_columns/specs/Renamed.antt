-- Groups and items with their columns at other places.
use Rattle.std.specs.Prelude.{ℕ, List, map, Option}
use Rattle.std.specs.Option.{option_map}
use Rattle.cq_model.specs.Expr.{Cond, Expr}
use Rattle.cq_model.specs.declared.query.Aggregate.{Aggregate}
use Rattle.cq_model.specs.declared.query.Aggregate.TheVariants.{CountAll, Count, CountDistinct, Sum, Min, Max}
use Rattle.cq_model.specs.declared.query.Shape.{Shape}
use Rattle.cq_model.specs.declared.query.Shape.TheVariants.{Plain, Grouped}
use Rattle.cq_model_terms.specs.Places.{place_in}
use Rattle.cq_model_terms.specs.Renamed.{renamed}

-- what is shown of a group, with each column at its new place
abbrev pub renamed_aggregate : (ℕ → ℕ) → Aggregate → Aggregate
renamed_aggregate to CountAll = CountAll
renamed_aggregate to (Count e) = Count (renamed to e)
renamed_aggregate to (CountDistinct e) = CountDistinct (renamed to e)
renamed_aggregate to (Sum e) = Sum (renamed to e)
renamed_aggregate to (Min e) = Min (renamed to e)
renamed_aggregate to (Max e) = Max (renamed to e)

-- groups by the new places; HAVING reads the groups, and stays
abbrev pub renamed_groups : (ℕ → ℕ) → Option (List ℕ) → List Aggregate → Option Cond → Shape
renamed_groups to keys aggregates having = Grouped (option_map (map to) keys) (map (renamed_aggregate to) aggregates) having

-- so they are where the columns stand at these places
abbrev pub groups_at : List ℕ → Option (List ℕ) → List Aggregate → Option Cond → Shape
groups_at places keys aggregates having = renamed_groups (place_in places) keys aggregates having

-- where there are some
abbrev pub renamed_shape : (ℕ → ℕ) → Shape → Shape
renamed_shape to Plain = Plain
renamed_shape to (Grouped keys aggregates having) = renamed_groups to keys aggregates having

-- items read joined rows where there are no groups, and else the groups, and stay
abbrev pub renamed_items : (ℕ → ℕ) → Shape → List Expr → List Expr
renamed_items to Plain items = map (renamed to) items
renamed_items to (Grouped keys aggregates having) items = items
