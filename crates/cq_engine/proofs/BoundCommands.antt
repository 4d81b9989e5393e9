-- What is known of a command that was bound.
use Rattle.std.proofs.Common.{◌≡◌, ℕ, Bool, true, false, List, [], ◌∷◌, map, length, Option, Some, None, refl, sym, ap, ◌∙◌, subst, Result, Ok}
use Rattle.std.specs.Prelude.{is_some, ok_or, option_map, unwrap_or, if◌then◌else◌}
use Rattle.std.specs.List.{AllByRecursion, flat_map}
use Rattle.std.specs.Option.{option_or}
use Rattle.std.proofs.lemmas.List.{length-map}
use Rattle.std.proofs.lemmas.Option.{slice_get_within}
use Rattle.cq_values.specs.declared.column.ColumnDef.{ColumnDef}
use Rattle.cq_values.specs.Value.{Row}
use Rattle.cq_model.specs.Sizes.{stored_size, stored_sizes}
use Rattle.cq_binder_rules.specs.declared.bound.Bound.{Bound}
use Rattle.cq_binder_rules.specs.declared.bound.Bound.TheVariants as commands
use Rattle.cq_sql_language.specs.declared.statement.Constant.{Constant}
use Rattle.cq_sql_language.specs.declared.statement.Select.{Select}
use Rattle.cq_sql_language.specs.declared.statement.SetClause.{SetClause}
use Rattle.cq_sql_language.specs.declared.statement.Statement.{Statement}
use Rattle.cq_sql_language.specs.declared.statement.Statement.TheVariants as statements
use Rattle.cq_model.specs.Width.{IsNarrowIn}
use Rattle.cq_sql_language.specs.Written.{Written}
use Rattle.cq_binder_rules.specs.declared.fault.Fault.{Fault}
use Rattle.cq_binder_rules.specs.declared.fault.Fault.TheVariants as faults
use Rattle.cq_binder_rules.specs.Scopes.{Named, bound_condition, from_table, from_view, place_in, scope_of, source_columns, source_named}
use Rattle.cq_binder_rules.specs.From.{From, any_source, from_walk, no_view, view_walk}
use Rattle.cq_binder_rules.specs.Headers.{header}
use Rattle.cq_binder_rules.specs.Bound.{bound, bound_select, bound_update, bound_view, row_of, rows_read, standing}
use Rattle.cq_binder_rules.specs.Records.{Files}
use Rattle.cq_binder_rules.specs.Queries.{bound_query}
use Rattle.cq_binder_rules.specs.Sets.{bound_sets, bound_where}
use Rattle.cq_binder_rules.specs.UpdateChecks.{update_walk}
use Rattle.cq_binder_rules.specs.Checks.{first_fault, fault_if}
use Rattle.cq_binder_rules.specs.RowChecks.{row_checks}
use Rattle.cq_binder_rules.specs.SourceChecks.{where_check}
use Rattle.cq_binder_rules.specs.ViewChecks.{create_view_checks, query_checks, view_select_checks}
use Rattle.cq_binder_rules.specs.Orders.{order_checks}
use Rattle.cq_binder_rules.specs.Refusal.{bag_checks, is_used, delete_checks, drop_table_checks, select_checks, source_checks, written_table}
use Rattle.cq_model_state.specs.Fitting.{FitsColumns, AreFitting}
use Rattle.cq_model_state.specs.State.{TableOf, ViewOf, State, is_taken, rows_in, table_named, view_named, view_place, AreNumbered}
use Rattle.cq_binder_queries.specs.Catalog.{alone as bare}
use Rattle.cq_binder.specs.Binding.{binding_checks, rows_walk, sets_walk}
use Rattle.cq_binder.proofs.Fitting.{rows_fit}
use Rattle.cq_engine_answers.specs.Narrow.{IsConditionSized, IsShapeSized, view_sizes}
use Rattle.cq_engine.specs.Commands.{CanCarryOut}
use Rattle.cq_engine.proofs.Creating.{view_can}
use Rattle.cq_engine.proofs.Shapes.{filter_sized, shape_sized}
use Rattle.cq_engine.proofs.Sourced.{IsFound, IsOneTable, are_joined, are_tables, standing_ok}
use Rattle.cq_views_model.specs.Query.{IsTable}
use Rattle.cq_engine_writes.proofs.Checks.{back_free, first_free, front_free}
use Rattle.cq_engine.proofs.Fitting.{narrow_rows, stored_keep}
use Rattle.cq_engine_writes.specs.Updates.{CanUpdate}
use Rattle.cq_engine.proofs.Assigned.{update_fits}
use Rattle.cq_model_bags.proofs.Lists.{all-there}
use Rattle.cq_engine.proofs.FoundByName.{columns-found, fits-found, mapped, read_fit, rows-found, stored-found, there-found, view_at_place, within_views}

module _ (tables : List TableOf) (views : List ViewOf) (next : ℕ) (numbered : AreNumbered tables next) (fitting : AreFitting tables) (shown : AllByRecursion (λ v. length v.columns ≡ length v.query.items) views) where
  abbrev here : State
  here = bare tables views

  abbrev Can : Bound → Type 0
  Can command = CanCarryOut tables views command

  drop_can : (name : List ℕ) (t : TableOf) → table_named name tables ≡ Some t → first_fault (drop_table_checks views (table_named name tables)) ≡ None → Can (commands.DropTable t.number)
  drop_can name t found free =
      let walk : first_fault (drop_table_checks views (Some t)) ≡ None = subst (λ (o : Option TableOf). first_fault (drop_table_checks views o) ≡ None) found free in
      (there-found name t tables found, unused (is_used t.number views) refl walk)
    where
      unused : (b : Bool) → is_used t.number views ≡ b → first_fault (fault_if b faults.TableInUse ∷ []) ≡ None → is_used t.number views ≡ false
      unused false e w = e
      unused true e w = absurd (cc w)

  insert_can : (name : List ℕ) (rows : List (List Constant)) (t : TableOf) → table_named name tables ≡ Some t → first_fault (rows_walk rows (written_table name here)) ≡ None → Can (commands.Insert t.number (map row_of rows))
  insert_can name rows t found free =
      let fault = if is_some (view_named name views) then faults.ViewNotWritten else faults.UnknownTable in
      let walk : first_fault (flat_map (row_checks t.columns) rows) ≡ None = subst (λ (o : Option TableOf). first_fault (rows_walk rows (ok_or o fault)) ≡ None) found free in
      (there-found name t tables found, subst (λ (cs : List ColumnDef). AllByRecursion (FitsColumns cs) (map row_of rows)) (sym (columns-found name t tables next numbered found)) (rows_fit t.columns rows walk))

  copy_can : (name bytes : List ℕ) (t : TableOf) → table_named name tables ≡ Some t → Can (commands.Insert t.number (rows_read t bytes))
  copy_can name bytes t found =
      (there-found name t tables found, subst (λ (cs : List ColumnDef). AllByRecursion (FitsColumns cs) (rows_read t bytes)) (sym (columns-found name t tables next numbered found)) (read_fit t bytes))

  delete_can : (name : List ℕ) (condition : Option Written) (t : TableOf) → table_named name tables ≡ Some t → first_fault (delete_checks condition (written_table name here)) ≡ None → Can (commands.Delete t.number (option_map (bound_condition (scope_of (from_table t))) condition))
  delete_can name condition t found free =
      let fault = if is_some (view_named name views) then faults.ViewNotWritten else faults.UnknownTable in
      let s = scope_of (from_table t) in
      let walk : first_fault (where_check s condition ∷ []) ≡ None = subst (λ (o : Option TableOf). first_fault (delete_checks condition (ok_or o fault)) ≡ None) found free in
      let narrow = narrow_rows (source_columns t.name (from_table t)) condition t.rows (first_free (where_check s condition) [] walk) (stored_keep t.name t t.rows (stored-found name t tables fitting found)) in
      (there-found name t tables found, subst (λ (rs : List Row). AllByRecursion (IsNarrowIn (option_map (bound_condition s) condition)) rs) (sym (rows-found name t tables next numbered found)) narrow)

  update_can : (name : List ℕ) (sets : List SetClause) (condition : Option Written) (t : TableOf) → table_named name tables ≡ Some t → first_fault (sets_walk condition sets (written_table name here)) ≡ None → Can (bound_update sets condition t)
  update_can name sets condition t found free =
      let fault = if is_some (view_named name views) then faults.ViewNotWritten else faults.UnknownTable in
      let s = scope_of (from_table t) in
      let walk : first_fault (update_walk condition sets s) ≡ None = subst (λ (o : Option TableOf). first_fault (sets_walk condition sets (ok_or o fault)) ≡ None) found free in
      let own = update_fits t sets condition walk (fits-found name t tables fitting found) in (
        there-found name t tables found,
        subst (λ (cs : List ColumnDef). CanUpdate cs (bound_sets s sets) (bound_where s condition) (rows_in tables t.number)) (sym (columns-found name t tables next numbered found))
            (subst (λ (rs : List Row). CanUpdate t.columns (bound_sets s sets) (bound_where s condition) rs) (sym (rows-found name t tables next numbered found)) own),
      )

  -- a source that was found by its name is there, with the sizes of its columns
  abbrev Found : Named → Type 0
  Found source = IsFound tables views source

  table_there : (name : List ℕ) (t : TableOf) → table_named name tables ≡ Some t → Found (from_table t)
  table_there name t found = record {
    there = there-found name t tables found;
    sizes = ap stored_sizes (columns-found name t tables next numbered found);
    even = sym (length-map t.columns (λ c. stored_size));
  }

  view_there : (name : List ℕ) (v : ViewOf) → view_named name views ≡ Some v → Found (from_view v (unwrap_or (view_place name views) 0))
  view_there name v named =
      let at = view_at_place name views v named in record {
        there = slice_get_within views (unwrap_or (view_place name views) 0) v at;
        sizes = ap view_sizes at;
        even = all-there (λ (w : ViewOf). length w.columns ≡ length w.query.items) views (unwrap_or (view_place name views) 0) v at shown ∙ sym (length-map v.query.items _);
      }

  source_there : (name : List ℕ) (source : Named) → source_named name here ≡ Some source → Found source
  source_there name source found = by_table (table_named name tables) (view_named name views) refl refl found
    where
      by_table : (o : Option TableOf) (p : Option ViewOf) → table_named name tables ≡ o → view_named name views ≡ p
          → option_or (option_map from_table o) (option_map (λ v. from_view v (unwrap_or (view_place name views) 0)) p) ≡ Some source → Found source
      by_table (Some t) p e f is = let same : from_table t ≡ source = cc is in subst Found same (table_there name t e)
      by_table None (Some v) e f is = let same : from_view v (unwrap_or (view_place name views) 0) ≡ source = cc is in subst Found same (view_there name v f)
      by_table None None e f is = absurd (cc is)

  -- a source that is a table counts once
  one_table : (name : List ℕ) (source : Named) → source_named name here ≡ Some source → IsTable source.source → IsOneTable source
  one_table name source found table = by_table (table_named name tables) (view_named name views) found
    where
      by_table : (o : Option TableOf) (p : Option ViewOf) → option_or (option_map from_table o) (option_map (λ v. from_view v (unwrap_or (view_place name views) 0)) p) ≡ Some source → IsOneTable source
      by_table (Some t) p is = let same : from_table t ≡ source = cc is in subst IsOneTable same (record { table = tt; base = refl })
      by_table None (Some v) is = let same : from_view v (unwrap_or (view_place name views) 0) ≡ source = cc is in absurd (subst (λ (n : Named). IsTable n.source) (sym same) table)
      by_table None None is = absurd (cc is)

  -- a view whose walk has no fault can be built
  create_view_can : (name : List ℕ) (view : Select) (from : From) → view_walk here view ≡ Ok from → first_fault (create_view_checks name view here) ≡ None → Can (bound_view name view from)
  create_view_can name view from walked free =
      let taken = fault_if (is_taken name here) faults.NameTaken in
      let walk : first_fault (taken ∷ query_checks view from.columns) ≡ None = subst (λ (r : Result From Fault). first_fault (taken ∷ view_select_checks view r) ≡ None) walked free in
      view_can view from (are_tables here one_table view from walked) (back_free (taken ∷ []) (query_checks view from.columns) walk) tables views (are_joined tables views here source_there no_view view from walked)

  -- a query that was bound can be worked out on the rows that join rows of its sources
  module _ (q : Select) where
    select_can : (from : From) → from_walk here q ≡ Ok from → first_fault (select_checks q (from_walk here q)) ≡ None → Can (bound_select q from)
    select_can from walked free =
        let walk : first_fault (source_checks q from.columns) ≡ None = subst (λ (r : Result From Fault). first_fault (select_checks q r) ≡ None) walked free in
        let bag = front_free (bag_checks q from.columns) (order_checks (header 1 q.items) q.order) walk in
        let are = are_joined tables views here source_there any_source q from walked in
        let query = bound_query q from in
        record {
          there = are.there;
          filter = subst (λ (ns : List ℕ). IsConditionSized ns query.filter) are.sizes (filter_sized q from.columns bag);
          shown = subst (λ (ns : List ℕ). IsShapeSized ns query.shape query.items) are.sizes (shape_sized q from.columns bag);
        }

  pub bound_can : (files : Files) (statement : Statement) (command : Bound) → first_fault (binding_checks files here statement) ≡ None → bound files here statement ≡ Some command → Can command
  bound_can files (statements.CreateTable name columns sort) command free is =
      let same : commands.CreateTable name columns (map (place_in columns) sort) ≡ command = cc is in
      subst Can same tt
  bound_can files (statements.DropTable name) command free is =
      let m = mapped (λ t. commands.DropTable t.number) (table_named name tables) command is in
      subst Can m.2 (drop_can name m.0 m.1 free)
  bound_can files (statements.CreateView name view) command free is =
      let m = mapped (bound_view name view) (standing (view_walk here view)) command is in
      subst Can m.2 (create_view_can name view m.0 (standing_ok (view_walk here view) m.0 m.1) free)
  bound_can files (statements.DropView name) command free is =
      let m = mapped commands.DropView (view_place name views) command is in
      subst Can m.2 (within_views name views m.0 m.1)
  bound_can files (statements.Insert name rows) command free is =
      let m = mapped (λ t. commands.Insert t.number (map row_of rows)) (table_named name tables) command is in
      subst Can m.2 (insert_can name rows m.0 m.1 free)
  bound_can files (statements.Copy name file) command free is =
      let m = mapped (λ t. commands.Insert t.number (rows_read t (files file))) (table_named name tables) command is in
      subst Can m.2 (copy_can name (files file) m.0 m.1)
  bound_can files (statements.Delete name condition) command free is =
      let m = mapped (λ t. commands.Delete t.number (option_map (bound_condition (scope_of (from_table t))) condition)) (table_named name tables) command is in
      subst Can m.2 (delete_can name condition m.0 m.1 free)
  bound_can files (statements.Update name sets condition) command free is =
      let m = mapped (bound_update sets condition) (table_named name tables) command is in
      subst Can m.2 (update_can name sets condition m.0 m.1 free)
  bound_can files (statements.Select q) command free is =
      let m = mapped (bound_select q) (standing (from_walk here q)) command is in
      subst Can m.2 (select_can q m.0 (standing_ok (from_walk here q) m.0 m.1) free)
  bound_can files (statements.Move name rows) command free is =
      let m = mapped (λ t. commands.Move t.number rows) (table_named name tables) command is in
      subst Can m.2 (there-found name m.0 tables m.1)
  bound_can files (statements.Merge name) command free is =
      let m = mapped (λ t. commands.Merge t.number) (table_named name tables) command is in
      subst Can m.2 (there-found name m.0 tables m.1)
  bound_can files (statements.Refresh view changes) command free is =
      let m = mapped (λ place. commands.Refresh place changes) (view_place view views) command is in
      subst Can m.2 (within_views view views m.0 m.1)
