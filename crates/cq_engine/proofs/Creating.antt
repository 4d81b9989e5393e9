-- CREATE VIEW: what its walk lets pass is a view that can be kept, on tables that are there.
use Rattle.std.proofs.Common.{◌≡◌, ℕ, zero, suc, ◌+◌, ◌≤◌, ◌<◌, Bool, true, false, List, [], ◌∷◌, ◌++◌, map, length, not, Option, Some, None, refl, sym, ap, ◌∙◌, arith, subst}
use Rattle.std.specs.Prelude.{if◌then◌else◌, is_some, option_map, slice_get}
use Rattle.std.specs.List.{AllByRecursion, flat_map}
use Rattle.std.proofs.lemmas.List.{append-nil, length-map}
use Rattle.cq_values.specs.declared.column.ColumnDef.{ColumnDef}
use Rattle.cq_model.specs.declared.query.Aggregate.{Aggregate}
use Rattle.cq_model.specs.declared.query.Shape.{Shape}
use Rattle.cq_model.specs.declared.query.Shape.TheVariants.{Grouped, Plain}
use Rattle.cq_model.specs.declared.query.Source.{Source}
use Rattle.cq_model.specs.declared.query.Source.TheVariants.{Table, View}
use Rattle.cq_model.specs.Sizes.{IsArgumentNarrow, IsNarrowOnStored, aggregate_size, row_size, shown_size, stored_size, stored_sizes}
use Rattle.cq_model.specs.Views.{sources_of}
use Rattle.cq_model.specs.Width.{limits_of, number_limit, widest}
use Rattle.cq_sql_language.specs.declared.statement.Select.{Select}
use Rattle.cq_sql_language.specs.declared.statement.SelectItem.{SelectItem}
use Rattle.cq_sql_language.specs.Written.{Written}
use Rattle.cq_binder_rules.specs.declared.fault.Fault.{Fault}
use Rattle.cq_binder_rules.specs.declared.fault.Fault.TheVariants.{NameTaken}
use Rattle.cq_binder_rules.specs.Bound.{item_columns}
use Rattle.cq_binder_rules.specs.Checks.{fault_if, first_fault, too_long}
use Rattle.cq_binder_rules.specs.From.{From}
use Rattle.cq_binder_rules.specs.Grouping.{is_empty, is_grouped, item_scope}
use Rattle.cq_binder_rules.specs.Headers.{header, shown_by}
use Rattle.cq_binder_rules.specs.Kinds.{kept_value}
use Rattle.cq_binder_rules.specs.Placed.{placed_cond, with_aggregates}
use Rattle.cq_binder_rules.specs.Places.{group_places}
use Rattle.cq_binder_rules.specs.Queries.{bound_group, bound_query, grouped_shape, having_aggregates, item_aggregates, placed_items}
use Rattle.cq_binder_rules.specs.Scopes.{in_groups, of_rows}
use Rattle.cq_binder_rules.specs.Sets.{bound_where}
use Rattle.cq_binder_rules.specs.SourceChecks.{group_checks, kept_check, where_check}
use Rattle.cq_binder_rules.specs.Typing.{Scope, ScopeColumn, size_at}
use Rattle.cq_binder_rules.specs.Orders.{key_checks}
use Rattle.cq_binder_rules.specs.ViewChecks.{absent_checks, list_checks, no_clause, query_checks, repeats}
use Rattle.cq_binder_expressions.specs.Expressions.{KeepSizes}
use Rattle.cq_model_state.specs.State.{TableOf, ViewOf, columns_in}
use Rattle.cq_views_model.specs.Query.{HasNoHaving, IsTable, aggregates_in}
use Rattle.cq_engine_tables.specs.Views.{Fits}
use Rattle.cq_engine_answers.specs.Narrow.{source_sizes}
use Rattle.cq_engine_writes.proofs.Checks.{back_free, first_free, front_free}
use Rattle.cq_engine.specs.Commands.{CanBuild}
use Rattle.cq_engine.proofs.Fitting.{items_walk, second_free, narrow_arguments, narrow_items, narrow_where, nothing_shown}
use Rattle.cq_engine.proofs.Groups.{key_keeps, key_places, told_keep}
use Rattle.cq_engine.proofs.Sourced.{AreJoined, AreTables}
use Rattle.cq_engine.proofs.Widths.{items_told, same_told}
use Rattle.cq_model_bags.proofs.Lists.{all-there}

-- ---- Columns of tables
-- each has the size of a stored number
abbrev pub AreStoredSized : List ScopeColumn → Type 0
AreStoredSized columns = AllByRecursion (λ c. c.size ≡ stored_size) columns

size_stored : (columns : List ScopeColumn) → AreStoredSized columns → (place : ℕ) → place < length columns
    → size_at columns place ≡ stored_size
size_stored [] sized place h = absurd (omega (arith, h))
size_stored (c ∷ columns) sized zero h = sized.0
size_stored (c ∷ columns) sized (suc place) h = size_stored columns sized.1 place (omega (arith, h))

-- so it is with what is joined of tables
module _ (tables : List TableOf) (views : List ViewOf) where
  abbrev AllStored : List ℕ → Type 0
  AllStored sizes = AllByRecursion (λ n. n ≡ stored_size) sizes

  both_stored : (xs ys : List ℕ) → AllStored xs → AllStored ys → AllStored (xs ++ ys)
  both_stored [] ys first second = second
  both_stored (x ∷ xs) ys first second = (first.0, both_stored xs ys first.1 second)

  columns_stored : (columns : List ColumnDef) → AllStored (stored_sizes columns)
  columns_stored [] = tt
  columns_stored (d ∷ columns) = (refl, columns_stored columns)

  source_stored : (s : Source) → IsTable s → AllStored (source_sizes tables views s)
  source_stored (Table n) is = columns_stored (columns_in tables n)
  source_stored (View place) is = absurd is

  sources_stored : (sources : List Source) → AllByRecursion IsTable sources
      → AllStored (flat_map (source_sizes tables views) sources)
  sources_stored [] are = tt
  sources_stored (s ∷ sources) are =
      both_stored (source_sizes tables views s) (flat_map (source_sizes tables views) sources) (source_stored s are.0)
      (sources_stored sources are.1)

  of_sizes : (columns : List ScopeColumn) → AllStored (map (λ c. c.size) columns) → AreStoredSized columns
  of_sizes [] all = tt
  of_sizes (c ∷ columns) all = (all.0, of_sizes columns all.1)

  joined_stored : (from : From) → AreJoined tables views from
      → AllByRecursion IsTable (from.first ∷ map (λ j. j.source) from.joins) → AreStoredSized from.columns
  joined_stored from joined are =
      let sources = from.first ∷ map (λ j. j.source) from.joins in
      of_sizes from.columns (subst AllStored (sym joined.sizes) (sources_stored sources are))

-- ---- A view's query
module _ (v : Select) (columns : List ScopeColumn) (sized : AreStoredSized columns) where
  abbrev shown : List Written
  shown = shown_by v.items

  abbrev groups : Scope
  groups = in_groups v.group columns

  abbrev rows : Scope
  rows = of_rows columns

  abbrev aggregates : List Aggregate
  aggregates = item_aggregates groups v.items

  abbrev stored : ℕ → ℕ
  stored i = stored_size

  -- the columns promise no less than stored numbers have
  rows_keep : KeepSizes rows stored
  rows_keep place inside may = omega (arith, size_stored columns sized place inside)

  -- so WHERE can be worked out in stored rows
  filter_narrow : where_check rows v.condition ≡ None → IsNarrowOnStored (bound_where rows v.condition)
  filter_narrow free row is =
      narrow_where columns v.condition row free
      (λ place inside may. omega (arith, is place, size_stored columns sized place inside))

  -- ---- Without groups
  plain_items : first_fault (items_walk kept_value rows shown) ≡ None
      → AllByRecursion (λ e. widest (row_size Plain) e < number_limit) (placed_items rows [] shown)
  plain_items free =
      narrow_items kept_value rows stored rows_keep [] [] _ shown refl (nothing_shown columns _ stored) free

  -- ---- With groups
  abbrev all_groups : Shape
  all_groups = Grouped (bound_group columns v.group) aggregates None

  -- in a group's row are the sizes of stored keys and of what is told of stored rows
  within : (i : ℕ)
      → row_size all_groups i ≤ limits_of (map stored (group_places columns v.group) ++ map shown_size aggregates) i
  within i =
      let same = key_places columns v.group in
      omega (arith, ap (λ (ks : List ℕ). limits_of (map stored ks ++ map shown_size aggregates) i) same)

  module _ (free : first_fault (items_walk kept_value groups shown) ≡ None) where
    arguments_narrow : AllByRecursion (IsArgumentNarrow stored) aggregates
    arguments_narrow = narrow_arguments kept_value groups stored rows_keep [] shown free tt

    -- what is told of stored rows is as large as what is told of the columns
    told_stored : AllByRecursion (λ a. shown_size a ≡ aggregate_size (size_at columns) a) aggregates
    told_stored =
        items_told groups (λ a. shown_size a ≡ aggregate_size (size_at columns) a) refl
        (same_told columns stored (size_at columns) (λ place inside. sym (size_stored columns sized place inside)))
        kept_value [] shown free tt

    told_at : (i : ℕ) (a : Aggregate) → slice_get aggregates i ≡ Some a
        → shown_size a ≤ aggregate_size (size_at columns) a
    told_at i a at =
        let P : Aggregate → Type 0 = λ b. shown_size b ≡ aggregate_size (size_at columns) b in
        omega (arith, all-there P aggregates i a at told_stored)

    groups_items : AllByRecursion (λ e. widest (row_size all_groups) e < number_limit) (placed_items groups [] shown)
    groups_items =
        narrow_items kept_value groups (row_size all_groups)
        (key_keeps columns v.group aggregates stored shown_size (row_size all_groups) within
        (λ place inside. omega (arith, size_stored columns sized place inside)))
        [] [] aggregates shown (append-nil aggregates)
        (told_keep columns v.group aggregates stored shown_size (row_size all_groups) within
        told_at)
        free

  -- ---- With groups or without
  -- in arguments and items nothing is too wide, and no group is dropped
  record IsShapeKept (shape : Shape) (s : Scope) : Type 0 where
    pub groups : HasNoHaving shape
    pub arguments : AllByRecursion (IsArgumentNarrow stored) (aggregates_in shape)
    pub items : AllByRecursion (λ e. widest (row_size shape) e < number_limit) (placed_items s [] shown)

  shape_kept : v.having ≡ None → (grouped : Bool)
      → first_fault (items_walk kept_value (if grouped then groups else rows) shown) ≡ None
      → IsShapeKept (if grouped then grouped_shape v columns else Plain) (if grouped then groups else rows)
  shape_kept none false free = record { groups = tt; arguments = tt; items = plain_items free }
  shape_kept none true free =
      let is : grouped_shape v columns ≡ all_groups
      = ap (λ (h : Option Written). Grouped (bound_group columns v.group) (having_aggregates groups aggregates h)
      (option_map (placed_cond groups aggregates) h)) none in
      subst (λ (shape : Shape). IsShapeKept shape groups) (sym is)
      (record { groups = refl; arguments = arguments_narrow free; items = groups_items free })

-- ---- What was bound
-- as many columns as items
columns_shown : (s : Scope) (place : ℕ) (is : List SelectItem) → length (item_columns s place is) ≡ length is
columns_shown s place [] = refl
columns_shown s place (item ∷ is) = ap suc (columns_shown s (place + 1) is)

-- and as many values
items_shown : (s : Scope) (before : List Aggregate) (ws : List Written) → length (placed_items s before ws) ≡ length ws
items_shown s before [] = refl
items_shown s before (w ∷ ws) = ap suc (items_shown s (with_aggregates s before w) ws)

-- a query over at most four tables, without DISTINCT and HAVING, whose WHERE and items have no fault
pub record IsOfView (v : Select) (from : From) : Type 0 where
  pub tables : AllByRecursion IsTable (sources_of (bound_query v from))
  pub few : length (sources_of (bound_query v from)) ≤ 4
  pub each : v.is_distinct ≡ false
  pub unfiltered : v.having ≡ None
  pub filter : where_check (of_rows from.columns) v.condition ≡ None
  pub items : first_fault (items_walk kept_value (item_scope v from.columns) (shown_by v.items)) ≡ None

module _ (tables : List TableOf) (views : List ViewOf) (v : Select) (from : From) (joined : AreJoined tables views from) (is : IsOfView v from) where
  -- can be kept
  query_fits : Fits (bound_query v from)
  query_fits =
      let sized = joined_stored tables views from joined is.tables in
      let shape = shape_kept v from.columns sized is.unfiltered (is_grouped v) is.items in
      record {
        can = record {
          tables = is.tables;
          each = is.each;
          groups = shape.groups;
          filter = filter_narrow v from.columns sized is.filter;
          arguments = shape.arguments;
          items = shape.items;
        };
        few = is.few;
      }

  -- for a view with a column for each item
  pub can_build : CanBuild tables views (item_columns (item_scope v from.columns) 1 v.items) (bound_query v from)
  can_build = record {
    shown =
        columns_shown (item_scope v from.columns) 1 v.items
        ∙ sym (items_shown (item_scope v from.columns) [] (shown_by v.items) ∙ length-map v.items (λ item. item.value));
    fits = query_fits;
    there = joined.there;
  }

-- ---- What a view may have
-- a clause that no view has
not_there : (b : Bool) → no_clause b ≡ None → b ≡ false
not_there false e = refl
not_there true e = absurd (cc e)

nothing_there : {X : Type 0} (o : Option X) → is_some o ≡ false → o ≡ None
nothing_there None e = refl
nothing_there (Some x) e = absurd (cc e)

module _ (v : Select) (from : From) (are : AreTables from) (free : first_fault (query_checks v from.columns) ≡ None) where
  abbrev item_checks : List (Option Fault)
  item_checks = map (kept_check (item_scope v from.columns)) (shown_by v.items)

  abbrev having_check : Option Fault
  having_check = where_check (item_scope v from.columns) v.having

  abbrev last_checks : List (Option Fault)
  last_checks = list_checks v ++ having_check ∷ absent_checks v

  -- behind GROUP BY nothing has a fault
  behind : first_fault (item_checks ++ last_checks) ≡ None
  behind = back_free (where_check (of_rows from.columns) v.condition ∷ group_checks from.columns v.group) (item_checks ++ last_checks) free

  -- nor behind the items
  last : first_fault last_checks ≡ None
  last = back_free item_checks last_checks behind

  -- nor behind HAVING
  absent : first_fault (absent_checks v) ≡ None
  absent = back_free (having_check ∷ []) (absent_checks v) (back_free (list_checks v) (having_check ∷ absent_checks v) last)

  -- so it is a query that a view may have
  of_view : IsOfView v from
  of_view = record {
    tables = are.tables;
    few = omega (arith, are.counted, are.few);
    each = not_there v.is_distinct (second_free (fault_if (repeats [] (header 1 v.items)) NameTaken) (no_clause v.is_distinct) (too_long (length v.items) ∷ having_check ∷ absent_checks v) last);
    unfiltered =
        nothing_there v.having (not_there (is_some v.having) (first_free (no_clause (is_some v.having)) (key_checks (header 1 v.items) v.order ++ no_clause (not (is_empty v.order)) ∷ no_clause (is_some v.limit) ∷ []) absent));
    filter = first_free (where_check (of_rows from.columns) v.condition) (group_checks from.columns v.group ++ (item_checks ++ last_checks)) free;
    items = front_free item_checks last_checks behind;
  }

  -- and can be built on tables that are there
  pub view_can : (tables : List TableOf) (views : List ViewOf) → AreJoined tables views from → CanBuild tables views (item_columns (item_scope v from.columns) 1 v.items) (bound_query v from)
  view_can tables views joined = can_build tables views v from joined of_view
