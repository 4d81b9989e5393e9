-- A query whose checks have no fault can be worked out on the rows that join its sources, and on their groups.
use Rattle.std.proofs.Common.{◌≡◌, ℕ, Bool, true, false, List, [], ◌∷◌, ◌++◌, map, length, Option, None, refl, sym}
use Rattle.std.specs.Prelude.{if◌then◌else◌, option_map}
use Rattle.cq_model_laws.specs.Sizes.{grouped_sizes}
use Rattle.cq_model.specs.Sizes.{IsSized}
use Rattle.cq_model.specs.declared.query.Aggregate.{Aggregate}
use Rattle.cq_model.specs.declared.query.Shape.TheVariants.{Plain}
use Rattle.cq_model.specs.Width.{limits_of, sizes_of}
use Rattle.cq_values.specs.Value.{Row}
use Rattle.cq_sql_language.specs.declared.statement.Select.{Select}
use Rattle.cq_sql_language.specs.Written.{Written}
use Rattle.cq_binder_rules.specs.declared.fault.Fault.{Fault}
use Rattle.cq_binder_rules.specs.Checks.{first_fault, too_long}
use Rattle.cq_binder_rules.specs.Grouping.{is_grouped, item_scope}
use Rattle.cq_binder_rules.specs.Headers.{shown_by}
use Rattle.cq_binder_rules.specs.Kinds.{tested}
use Rattle.cq_binder_rules.specs.Placed.{placed_cond}
use Rattle.cq_binder_rules.specs.Queries.{bound_group, bound_shape, grouped_shape, having_aggregates, item_aggregates, placed_items}
use Rattle.cq_binder_rules.specs.Refusal.{bag_checks}
use Rattle.cq_binder_rules.specs.Scopes.{in_groups, of_rows}
use Rattle.cq_binder_rules.specs.Sets.{bound_where}
use Rattle.cq_binder_rules.specs.SourceChecks.{group_checks, value_check, where_check}
use Rattle.cq_binder_rules.specs.Typing.{Scope, ScopeColumn}
use Rattle.cq_binder_expressions.specs.Expressions.{KeepSizes}
use Rattle.cq_engine_answers.specs.Narrow.{AreArgumentsSized, AreItemsSized, IsConditionSized, IsShapeSized}
use Rattle.cq_engine_writes.proofs.Checks.{back_free, first_free, front_free}
use Rattle.cq_engine.proofs.Fitting.{having_arguments, having_grows, items_walk, narrow_arguments, narrow_having, narrow_items, narrow_where, nothing_shown, second_free}
use Rattle.cq_engine.proofs.Groups.{groups_keep, groups_show}

-- a row whose numbers are of the sizes of the columns keeps them
sized_keeps : (columns : List ScopeColumn) (row : Row) → IsSized (limits_of (map (λ c. c.size) columns)) row → KeepSizes (of_rows columns) (sizes_of row)
sized_keeps columns row sized place within may = sized place

module _ (q : Select) (columns : List ScopeColumn) where
  abbrev sizes : List ℕ
  sizes = map (λ c. c.size) columns

  abbrev shown : List Written
  shown = shown_by q.items

  abbrev groups : Scope
  groups = in_groups q.group columns

  -- the aggregates of the items, and with those of HAVING
  abbrev before : List Aggregate
  before = item_aggregates groups q.items

  abbrev all : List Aggregate
  all = having_aggregates groups before q.having

  abbrev all_sizes : List ℕ
  all_sizes = grouped_sizes sizes (bound_group columns q.group) all

  -- ---- Where items and HAVING have no fault
  -- over rows, the items can be worked out
  plain_sized : first_fault (items_walk tested (of_rows columns) shown) ≡ None → AreItemsSized sizes (placed_items (of_rows columns) [] shown)
  plain_sized free row sized =
      narrow_items tested (of_rows columns) (sizes_of row) (sized_keeps columns row sized) [] [] _ shown refl
      (nothing_shown columns _ (sizes_of row)) free

  -- over groups, what is told of them, HAVING and the items can
  module _ (items_free : first_fault (items_walk tested groups shown) ≡ None) (having_free : where_check groups q.having ≡ None) where
    arguments_sized : AreArgumentsSized sizes all
    arguments_sized row sized =
        let kept = sized_keeps columns row sized in
        having_arguments groups (sizes_of row) kept before q.having having_free (narrow_arguments tested groups (sizes_of row) kept [] shown items_free tt)

    having_sized : IsConditionSized all_sizes (option_map (placed_cond groups before) q.having)
    having_sized row sized =
        narrow_having groups row (groups_keep columns q.group all row sized) before q.having (groups_show columns q.group all row sized) having_free

    groups_sized : AreItemsSized all_sizes (placed_items groups [] shown)
    groups_sized row sized =
        let g = having_grows groups before q.having in
        narrow_items tested groups (sizes_of row) (groups_keep columns q.group all row sized) [] g.0 all shown (sym g.1)
        (groups_show columns q.group all row sized) items_free

  -- so it is, whether the query is grouped or not
  shape_for : (grouped : Bool) → first_fault (items_walk tested (if grouped then groups else of_rows columns) shown) ≡ None → where_check (if grouped then groups else of_rows columns) q.having ≡ None
      → IsShapeSized sizes (if grouped then grouped_shape q columns else Plain) (placed_items (if grouped then groups else of_rows columns) [] shown)
  shape_for true items having = (arguments_sized items having, having_sized items having, groups_sized items having)
  shape_for false items having = plain_sized items

  -- ---- Where the checks have no fault
  module _ (free : first_fault (bag_checks q columns) ≡ None) where
    abbrev item_checks : List (Option Fault)
    item_checks = map (value_check (item_scope q columns)) shown

    abbrev last_checks : List (Option Fault)
    last_checks = too_long (length q.items) ∷ where_check (item_scope q columns) q.having ∷ []

    -- behind GROUP BY nothing has a fault
    behind : first_fault (item_checks ++ last_checks) ≡ None
    behind = back_free (where_check (of_rows columns) q.condition ∷ group_checks columns q.group) (item_checks ++ last_checks) free

    -- WHERE can be worked out
    pub filter_sized : IsConditionSized sizes (bound_where (of_rows columns) q.condition)
    filter_sized row sized =
        narrow_where columns q.condition row
        (first_free (where_check (of_rows columns) q.condition) (group_checks columns q.group ++ (item_checks ++ last_checks)) free)
        (sized_keeps columns row sized)

    -- and so can groups and items
    pub shape_sized : IsShapeSized sizes (bound_shape q columns) (placed_items (item_scope q columns) [] shown)
    shape_sized =
        shape_for (is_grouped q) (front_free item_checks last_checks behind)
        (second_free (too_long (length q.items)) (where_check (item_scope q columns) q.having) [] (back_free item_checks last_checks behind))
