-- The items of a query, one after the other.
use Rattle.std.proofs.Common.{◌≡◌, List, ◌++◌}
use Rattle.std.specs.List.{fold}
use Rattle.cq_sql_language.specs.Written.{Written}
use Rattle.cq_model.specs.declared.query.Aggregate.{Aggregate}
use Rattle.cq_model.specs.Expr.{Expr}
use Rattle.cq_binder_rules.specs.Placed.{with_aggregates}
use Rattle.cq_binder_rules.specs.Queries.{placed_items}
use Rattle.cq_binder_rules.specs.Typing.{Scope}

-- what was bound and what is left make up the values of all items, and their aggregates
abbrev pub AreBoundUpTo : Scope → List Aggregate → List Written → List Written → List Aggregate → List Expr → Type 0
AreBoundUpTo s before all left aggregates values =
    (values ++ placed_items s aggregates left ≡ placed_items s before all)
    × (fold (with_aggregates s) aggregates left ≡ fold (with_aggregates s) before all)
