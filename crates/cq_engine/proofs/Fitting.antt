-- What passes its checks is narrow: WHERE at stored rows, and items and HAVING, with the arguments of their aggregates.
use Rattle.std.proofs.Common.{◌≡◌, ℕ, zero, suc, ◌<◌, List, [], ◌∷◌, ◌++◌, map, length, Option, Some, None, Result, Ok, Err, refl, sym, ap, ◌∙◌, append_assoc, arith, subst}
use Rattle.std.specs.Prelude.{option_map}
use Rattle.std.specs.List.{AllByRecursion, fold, zip}
use Rattle.std.proofs.lemmas.List.{append-nil}
use Rattle.cq_values.specs.Value.{Row}
use Rattle.cq_values.specs.declared.column.ColumnDef.{ColumnDef}
use Rattle.cq_model.specs.declared.query.Aggregate.{Aggregate}
use Rattle.cq_model.specs.Sizes.{IsArgumentNarrow, IsStored, stored_size, stored_sizes}
use Rattle.cq_model.specs.Width.{IsNarrowIn, number_limit, sizes_of, widest}
use Rattle.cq_sql_language.specs.Written.{Written}
use Rattle.cq_binder_rules.specs.declared.fault.Fault.{Fault}
use Rattle.cq_binder_rules.specs.declared.typing.Typing.{Typing}
use Rattle.cq_binder_rules.specs.Checks.{first_fault}
use Rattle.cq_binder_rules.specs.Kinds.{◌and_then◌, negation_of}
use Rattle.cq_binder_rules.specs.Placed.{placed_cond, with_aggregates}
use Rattle.cq_binder_rules.specs.Queries.{having_aggregates, placed_items}
use Rattle.cq_binder_rules.specs.Scopes.{from_table, of_rows, scope_column, source_columns}
use Rattle.cq_binder_rules.specs.Sets.{bound_where}
use Rattle.cq_binder_rules.specs.SourceChecks.{where_check}
use Rattle.cq_binder_rules.specs.Typing.{Scope, ScopeColumn, fault_in, rows_in, size_at, typed}
use Rattle.cq_binder_expressions.specs.Expressions.{IsNarrow, KeepShown, KeepSizes}
use Rattle.cq_binder_expressions.proofs.Growing.{Grows, grows}
use Rattle.cq_binder_expressions.proofs.Narrow.{arguments_are_narrow, typed_is_narrow}
use Rattle.cq_engine_writes.proofs.Checks.{back_free, first_free}
use Rattle.cq_model_state.specs.State.{TableOf}

-- ---- Checks without a fault

-- where places have no fault, the second has none
pub second_free : (o p : Option Fault) (places : List (Option Fault)) → first_fault (o ∷ p ∷ places) ≡ None → p ≡ None
second_free None None places e = refl
second_free None (Some f) places e = absurd (cc)
second_free (Some f) p places e = absurd (cc)

-- what is asked for as a whole stands where it passes
pub passed : (ask : Typing → Result Typing Fault) (r : Result Typing Fault) → fault_in (r and_then ask) ≡ None → (t : Typing) × (r ≡ Ok t)
passed ask (Ok t) free = (t, refl)
passed ask (Err f) free = absurd (cc free)

-- ---- WHERE
-- no group is read over rows
pub nothing_shown : (columns : List ScopeColumn) (aggregates : List Aggregate) (sizes : ℕ → ℕ) → KeepShown (of_rows columns) aggregates sizes
nothing_shown columns aggregates sizes grouped i a at = absurd (cc grouped)

-- what stands over rows is narrow wherever the columns keep their sizes
pub narrow_over : (columns : List ScopeColumn) (w : Written) (t : Typing) (sizes : ℕ → ℕ) → typed (of_rows columns) w ≡ Ok t
    → KeepSizes (of_rows columns) sizes → IsNarrow (of_rows columns) [] w t sizes
narrow_over columns w t sizes e kept =
    let s = of_rows columns in
    typed_is_narrow s [] [] w t sizes e kept (nothing_shown columns (with_aggregates s [] w ++ []) sizes)

-- so is WHERE at a row that keeps them
pub narrow_where : (columns : List ScopeColumn) (c : Option Written) (row : Row) → where_check (of_rows columns) c ≡ None
    → KeepSizes (of_rows columns) (sizes_of row) → IsNarrowIn (bound_where (of_rows columns) c) row
narrow_where columns None row free kept = tt
narrow_where columns (Some w) row free kept =
    let p = passed negation_of (typed (of_rows columns) w) free in
    (narrow_over columns w p.0 (sizes_of row) p.1 kept).condition

-- and at each of several rows
pub narrow_rows : (columns : List ScopeColumn) (c : Option Written) (rows : List Row) → where_check (of_rows columns) c ≡ None
    → AllByRecursion (λ row. KeepSizes (of_rows columns) (sizes_of row)) rows → AllByRecursion (IsNarrowIn (bound_where (of_rows columns) c)) rows
narrow_rows columns c [] free kept = tt
narrow_rows columns c (row ∷ rows) free kept = (narrow_where columns c row free kept.0, narrow_rows columns c rows free kept.1)

-- the columns of a table that is known by a name
abbrev pub read_columns : List ℕ → List ColumnDef → List ScopeColumn
read_columns known columns = map (scope_column known) (zip columns (stored_sizes columns))

-- each of them has the size of a stored number
pub size_there : (known : List ℕ) (columns : List ColumnDef) (i : ℕ) → i < length (read_columns known columns) → size_at (read_columns known columns) i ≡ stored_size
size_there known [] i h = absurd (omega (arith, h))
size_there known (d ∷ columns) zero h = refl
size_there known (d ∷ columns) (suc i) h = size_there known columns i (omega (arith, h))

-- stored rows keep the sizes of their table's columns
pub stored_keeps : (known : List ℕ) (t : TableOf) (row : Row) → IsStored row → KeepSizes (of_rows (source_columns known (from_table t))) (sizes_of row)
stored_keeps known t row stored place within may = omega (arith, stored place, size_there known t.columns place within)

-- all of them do
pub stored_keep : (known : List ℕ) (t : TableOf) (rows : List Row) → AllByRecursion IsStored rows
    → AllByRecursion (λ row. KeepSizes (of_rows (source_columns known (from_table t))) (sizes_of row)) rows
stored_keep known t [] stored = tt
stored_keep known t (row ∷ rows) stored = (stored_keeps known t row stored.0, stored_keep known t rows stored.1)

-- ---- Items and HAVING
module _ (ask : Typing → Result Typing Fault) (s : Scope) where
  -- the walk through items that are asked for as a whole
  abbrev pub items_walk : List Written → List (Option Fault)
  items_walk ws = map (λ w. fault_in (typed s w and_then ask)) ws

  -- an item stands where the walk has no fault
  pub item_stands : (w : Written) (ws : List Written) → first_fault (items_walk (w ∷ ws)) ≡ None
      → (t : Typing) × (typed s w ≡ Ok t)
  item_stands w ws free = passed ask (typed s w) (first_free (fault_in (typed s w and_then ask)) (items_walk ws) free)

  -- and those behind it have no fault
  pub others_free : (w : Written) (ws : List Written) → first_fault (items_walk (w ∷ ws)) ≡ None
      → first_fault (items_walk ws) ≡ None
  others_free w ws free = back_free (fault_in (typed s w and_then ask) ∷ []) (items_walk ws) free

  -- no argument of an aggregate in them is too wide
  pub narrow_arguments : (sizes : ℕ → ℕ) → KeepSizes (rows_in s) sizes → (before : List Aggregate) (ws : List Written) → first_fault (items_walk ws) ≡ None
      → AllByRecursion (IsArgumentNarrow sizes) before → AllByRecursion (IsArgumentNarrow sizes) (fold (with_aggregates s) before ws)
  narrow_arguments sizes kept before [] free all = all
  narrow_arguments sizes kept before (w ∷ ws) free all =
      let p = item_stands w ws free in
      narrow_arguments sizes kept (with_aggregates s before w) ws (others_free w ws free) (arguments_are_narrow s before w p.0 sizes p.1 kept all)

  -- their aggregates are put behind the others
  items_grow : (before : List Aggregate) (ws : List Written) → Grows before (fold (with_aggregates s) before ws)
  items_grow before [] = ([], sym (append-nil before))
  items_grow before (w ∷ ws) =
      let g = grows s before w in
      let h = items_grow (with_aggregates s before w) ws in
      (g.0 ++ h.0, h.1 ∙ ap (λ us. us ++ h.0) g.1 ∙ append_assoc before g.0 h.0)

  -- no item is too wide where the columns and all aggregates keep their sizes
  pub narrow_items : (sizes : ℕ → ℕ) → KeepSizes s sizes → (before more all : List Aggregate) (ws : List Written)
      → fold (with_aggregates s) before ws ++ more ≡ all
      → KeepShown s all sizes → first_fault (items_walk ws) ≡ None
      → AllByRecursion (λ e. widest sizes e < number_limit) (placed_items s before ws)
  narrow_items sizes kept before more all [] is shown free = tt
  narrow_items sizes kept before more all (w ∷ ws) is shown free =
      let low = with_aggregates s before w in
      let h = items_grow low ws in
      let p = item_stands w ws free in
      let whole : low ++ (h.0 ++ more) ≡ all = sym (append_assoc low h.0 more) ∙ ap (λ us. us ++ more) (sym h.1) ∙ is in
      let narrow = typed_is_narrow s before (h.0 ++ more) w p.0 sizes p.1 kept (subst (λ us. KeepShown s us sizes) (sym whole) shown) in
      (narrow.value, narrow_items sizes kept low more all ws is shown (others_free w ws free))

module _ (s : Scope) where
  -- HAVING puts its aggregates behind those of the items
  pub having_grows : (before : List Aggregate) (having : Option Written) → Grows before (having_aggregates s before having)
  having_grows before None = ([], sym (append-nil before))
  having_grows before (Some w) = grows s before w

  -- no argument in it is too wide
  pub having_arguments : (sizes : ℕ → ℕ) → KeepSizes (rows_in s) sizes → (before : List Aggregate) (having : Option Written) → where_check s having ≡ None
      → AllByRecursion (IsArgumentNarrow sizes) before → AllByRecursion (IsArgumentNarrow sizes) (having_aggregates s before having)
  having_arguments sizes kept before None free all = all
  having_arguments sizes kept before (Some w) free all =
      let p = passed negation_of (typed s w) free in
      arguments_are_narrow s before w p.0 sizes p.1 kept all

  -- nor is HAVING itself
  pub narrow_having : (row : Row) → KeepSizes s (sizes_of row) → (before : List Aggregate) (having : Option Written) → KeepShown s (having_aggregates s before having) (sizes_of row)
      → where_check s having ≡ None → IsNarrowIn (option_map (placed_cond s before) having) row
  narrow_having row kept before None shown free = tt
  narrow_having row kept before (Some w) shown free =
      let p = passed negation_of (typed s w) free in
      (typed_is_narrow s before [] w p.0 (sizes_of row) p.1 kept (subst (λ us. KeepShown s us (sizes_of row)) (sym (append-nil (with_aggregates s before w))) shown)).condition
