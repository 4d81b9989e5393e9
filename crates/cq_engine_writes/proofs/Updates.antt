-- UPDATE on the rows of a table: what is known of those that go and of those that come.
use Rattle.std.proofs.Common.{◌≡◌, ◌<◌, ◌≤◌, ℕ, get_or, set, Result, Ok, Err, Bool, List, [], ◌∷◌, ◌++◌, map, length, Option, None, sym, ap, ◌∙◌, arith, subst}
use Rattle.std.specs.Prelude.{filter, if◌then◌else◌}
use Rattle.std.specs.Result.{OnOk}
use Rattle.std.specs.List.{AllByRecursion}
use Rattle.std.proofs.lemmas.List.{length-map}
use Rattle.cq_values.specs.declared.column.ColumnDef.{ColumnDef}
use Rattle.cq_values.specs.Value.{Row}
use Rattle.cq_model_bags.proofs.Canonicals.{length-bag_of}
use Rattle.cq_model.specs.Sizes.{IsStored}
use Rattle.cq_model.specs.declared.assignment.Assignment.{Assignment}
use Rattle.cq_model.specs.Expr.{Cond}
use Rattle.cq_model.specs.Meaning.{keeps}
use Rattle.cq_model.specs.Write.{chosen, image_of, left_by, updated}
use Rattle.cq_binder_rules.specs.Checks.{MayRefuse}
use Rattle.cq_binder_rules.specs.declared.fault.Fault.{Fault}
use Rattle.cq_model_state.specs.Fitting.{AreFitting, AreLimited, FitsColumns, IsFitting, rows_limit}
use Rattle.cq_model_state.specs.State.{AreNumbered, ChangeOf, TableOf, columns_in, holding, rows_in}
use Rattle.cq_engine_writes.specs.Changing.{IsChangeAt}
use Rattle.cq_engine_writes.specs.Updates.{CanSetAll, CanUpdate, IsPrepared, Updates, UpdatesRows, updated_in, value_fault_in}
use Rattle.cq_engine_tables.specs.Chosen.{stored_of}
use Rattle.cq_engine_tables.specs.HeldTables.{HeldTable}
use Rattle.cq_table.specs.Found.{found_rows}
use Rattle.cq_table.specs.Checks.{AreNarrowSets, value_fault, values_fault}
use Rattle.cq_table.specs.Table.{SameRows}
use Rattle.cq_table.proofs.Checked.{fault_same}
use Rattle.cq_table.proofs.Replaced.{same_replaced}
use Rattle.cq_model_bags.proofs.Totals.{by_test}
use Rattle.cq_engine_tables.proofs.Rows.{bounded-with_rows, columns_numbered, fitting-with_rows, fitting_in, rows_have, rows_numbered}
use Rattle.cq_engine_writes.proofs.Setting.{checked_fit}
use Rattle.cq_table.proofs.RowLists.{gone_all}
use Rattle.cq_engine_tables.proofs.Stored.{rows_stored}
use Rattle.cq_engine_writes.proofs.Telling.{change_by, updated_change}
use Rattle.cq_engine_writes.proofs.Written.{written_here}
use Rattle.cq_model_bags.proofs.Lists.{all-filter, all-map}

-- nothing is too wide in assignments that can be carried out on a row
narrow_sets : (columns : List ColumnDef) (assignments : List Assignment) (row : Row) → CanSetAll columns assignments row → AreNarrowSets assignments row
narrow_sets columns [] row can = tt
narrow_sets columns (a ∷ later) row can = (can.0.narrow, narrow_sets columns later row can.1)

-- so SET can be worked out on each row
pub all_narrow_sets : (columns : List ColumnDef) (assignments : List Assignment) (rows : List Row) → AllByRecursion (CanSetAll columns assignments) rows → AllByRecursion (AreNarrowSets assignments) rows
all_narrow_sets columns assignments [] can = tt
all_narrow_sets columns assignments (r ∷ rows) can = (narrow_sets columns assignments r can.0, all_narrow_sets columns assignments rows can.1)

module _ (t : TableOf) (assignments : List Assignment) (c : Option Cond) (can : CanUpdate t.columns assignments c t.rows) (gone : List Row) (is_chosen : SameRows gone (chosen c t.rows)) where
  sets_gone : AllByRecursion (CanSetAll t.columns assignments) gone
  sets_gone = gone_all (keeps c) t.rows gone is_chosen (CanSetAll t.columns assignments) (all-filter (CanSetAll t.columns assignments) (keeps c) t.rows can.sets)

  -- as many go as are chosen
  pub length_gone : length gone ≡ length (chosen c t.rows)
  length_gone = sym (length-bag_of gone) ∙ ap length is_chosen ∙ length-bag_of (chosen c t.rows)

  module _ (fitting : IsFitting t) where
    fits_gone : AllByRecursion (FitsColumns t.columns) gone
    fits_gone = gone_all (keeps c) t.rows gone is_chosen (FitsColumns t.columns) (all-filter (FitsColumns t.columns) (keeps c) t.rows fitting)

    -- the images fit where their values have no fault
    pub come_fit : values_fault t.columns assignments gone ≡ None → AllByRecursion (FitsColumns t.columns) (map (image_of assignments) gone)
    come_fit free = all-map (λ r. FitsColumns t.columns (image_of assignments r)) (FitsColumns t.columns) (image_of assignments) (λ r fits. fits) gone (checked_fit t.columns assignments gone fits_gone sets_gone free)

    stored_come : values_fault t.columns assignments gone ≡ None → AllByRecursion IsStored (map (image_of assignments) gone)
    stored_come free = rows_stored t.columns (map (image_of assignments) gone) (come_fit free)

    -- then the change takes the table to the images
    pub exchange_at : length t.rows ≤ rows_limit → values_fault t.columns assignments gone ≡ None → (come : List Row) → come ≡ map (image_of assignments) gone
        → IsChangeAt t.number t.rows (updated assignments c t.rows) (change_by t.number gone come)
    exchange_at few free come are =
        updated_change (keeps c) t.rows gone is_chosen t.number (rows_stored t.columns t.rows fitting) few (image_of assignments) come are
        (subst (λ (rs : List Row). AllByRecursion IsStored rs) (sym are) (stored_come free))

module _ (asked : Bool) (held : HeldTable) (assignments : List Assignment) (c : Option Cond) (can : CanUpdate held.is.columns assignments c held.is.rows) (places : List ℕ) (come : List Row) (change : Option ChangeOf)
    (p : IsPrepared asked held assignments c places come change) where
  abbrev t : TableOf
  t = held.is

  abbrev gone_rows : List Row
  gone_rows = found_rows (stored_of held) places

  -- as many come as were found
  pub length_come : length come ≡ length places
  length_come = ap length p.images ∙ length-map gone_rows (image_of assignments) ∙ length_gone t assignments c can gone_rows p.found.picks ∙ sym p.found.count

  -- the table has each chosen row's image in its place
  pub replaced_table : (u : TableOf) → u ≡ holding (left_by c t.rows ++ come) t → u ≡ holding (updated assignments c t.rows) t
  replaced_table u is =
      is
      ∙ ap (λ (rs : List Row). holding (left_by c t.rows ++ rs) t) p.images
      ∙ ap (λ (rs : List Row). record { number = t.number; name = t.name; columns = t.columns; sort = t.sort; rows = rs }) (same_replaced (keeps c) t.rows gone_rows p.found.picks (image_of assignments))

  -- the images fit the columns
  pub images_fitting : IsFitting t → AllByRecursion (FitsColumns t.columns) come
  images_fitting fitting =
      let free : values_fault t.columns assignments gone_rows ≡ None = fault_same assignments c t.rows gone_rows p.found.picks t.columns ∙ p.free in
      subst (λ (rs : List Row). AllByRecursion (FitsColumns t.columns) rs) (sym p.images) (come_fit t assignments c can gone_rows p.found.picks fitting free)

-- ---- The table of a number
pub updates_rows : {X : Type 0} (assignments : List Assignment) (c : Option Cond) (t u : TableOf) (result : Result (ℕ × X) Fault) → UpdatesRows assignments c t result u → OnOk result (u ≡ holding (updated assignments c t.rows) t)
updates_rows assignments c t u (Ok done) w = w.2
updates_rows assignments c t u (Err f) w = tt

module _ (next : ℕ) (tables : List TableOf) (i : ℕ) (t : TableOf) (numbered : AreNumbered tables next) (within : i < length tables) (is : t ≡ get_or tables i t) (n : ℕ) (number : (get_or tables i t).number ≡ n) (assignments : List Assignment) (c : Option Cond) where
  its_rows : rows_in tables n ≡ t.rows
  its_rows = rows_numbered tables i t next n numbered within is number

  its_columns : columns_in tables n ≡ t.columns
  its_columns = columns_numbered tables i t next n numbered within is number

  -- what can be done with the table of the number can be done with the one at its place
  pub can_here : CanUpdate (columns_in tables n) assignments c (rows_in tables n) → CanUpdate t.columns assignments c t.rows
  can_here can = subst (λ (cs : List ColumnDef). CanUpdate cs assignments c t.rows) its_columns (subst (λ (rs : List Row). CanUpdate (columns_in tables n) assignments c rs) its_rows can)

  same_fault : value_fault_in tables n assignments c ≡ value_fault t.columns assignments c t.rows
  same_fault = λ j. value_fault (its_columns j) assignments c (its_rows j)

  -- and what was done there was done with the table of the number
  pub updates_here : {X : Type 0} (u : TableOf) (result : Result (ℕ × X) Fault) → UpdatesRows assignments c t result u → Updates n assignments c tables result (set tables i u)
  updates_here u (Ok done) w = (
    same_fault ∙ w.0,
    w.1 ∙ ap (λ (rs : List Row). length (chosen c rs)) (sym its_rows),
    written_here next tables i t numbered within is n number u (updated assignments c) w.2,
  )
  updates_here u (Err f) w = subst (λ o. MayRefuse o f) (sym same_fault) w

-- ---- The tables behind an UPDATE
module _ (P : Row → Type 0) (keep : Row → Bool) (image : Row → Row) where
  all_replaced : (rows : List Row) → AllByRecursion P rows → AllByRecursion (λ r. P (image r)) (filter keep rows) → AllByRecursion P (map (λ r. if keep r then image r else r) rows)
  all_replaced [] own all = tt
  all_replaced (r ∷ rows) own all = by_test (keep r)
      (λ k. let here = rw k at all in rw k (here.0, all_replaced rows own.1 here.1))
      (λ k. rw k (own.0, all_replaced rows own.1 (rw k at all)))

module _ (n : ℕ) (assignments : List Assignment) (c : Option Cond) (tables : List TableOf) where
  abbrev columns : List ColumnDef
  columns = columns_in tables n

  abbrev rows : List Row
  rows = rows_in tables n

  pub updated_fit : (next : ℕ) → AreNumbered tables next → AreFitting tables → CanUpdate columns assignments c rows → value_fault_in tables n assignments c ≡ None → AreFitting (updated_in n assignments c tables)
  updated_fit next numbered fitting can free =
      let own = fitting_in n tables fitting in
      let images = checked_fit columns assignments (chosen c rows) (all-filter (FitsColumns columns) (keeps c) rows own) (all-filter (CanSetAll columns assignments) (keeps c) rows can.sets) free in
      fitting-with_rows n (updated assignments c rows) tables next numbered fitting (all_replaced (FitsColumns columns) (keeps c) (image_of assignments) rows own images)

  pub updated_bounded : (most : ℕ) → AreLimited most tables → AreLimited most (updated_in n assignments c tables)
  updated_bounded most bounded =
      bounded-with_rows n (updated assignments c rows) most tables
      (omega (arith, length-map rows (λ r. if keeps c r then image_of assignments r else r), rows_have (λ rs. length rs ≤ most) (omega arith) tables n bounded)) bounded
