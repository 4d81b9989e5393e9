-- To carry a command out is the step of the statement that was bound to it.
use Rattle.std.proofs.Common.{◌≡◌, ◌⊎◌, ℕ, ◌+◌, Bool, true, false, List, [], ◌∷◌, ◌++◌, map, length, Option, Some, None, refl, sym, ap, ◌∙◌, inl, inr, subst, Result, Ok, Err}
use Rattle.std.specs.Prelude.{nat_lt, is_some, ok_or, option_map, if◌then◌else◌}
use Rattle.std.specs.List.{flat_map}
use Rattle.std.specs.Option.{option_or}
use Rattle.std.proofs.lemmas.List.{length-map}
use Rattle.cq_binder_rules.specs.declared.bound.Bound.{Bound}
use Rattle.cq_binder_rules.specs.declared.bound.Bound.TheVariants as commands
use Rattle.cq_sql_language.specs.declared.statement.Constant.{Constant}
use Rattle.cq_sql_language.specs.declared.statement.SetClause.{SetClause}
use Rattle.cq_sql_language.specs.declared.statement.Statement.{Statement}
use Rattle.cq_sql_language.specs.declared.statement.Statement.TheVariants as statements
use Rattle.cq_sql_language.specs.Written.{Written}
use Rattle.cq_model_step.specs.declared.answer.Answer.{Answer}
use Rattle.cq_binder_rules.specs.declared.fault.Fault.{Fault}
use Rattle.cq_binder_rules.specs.declared.fault.Fault.TheVariants as faults
use Rattle.cq_binder_rules.specs.Scopes.{bound_condition, from_table, place_in, scope_of}
use Rattle.cq_binder_rules.specs.From.{from_walk, view_walk}
use Rattle.cq_binder_rules.specs.Bound.{bound, bound_select, bound_update, bound_view, row_of, rows_read, standing}
use Rattle.cq_binder_rules.specs.Records.{Files}
use Rattle.cq_binder_rules.specs.Sets.{bound_sets, bound_where}
use Rattle.cq_binder_rules.specs.UpdateChecks.{row_checks_of, update_checks, update_walk}
use Rattle.cq_binder_rules.specs.Checks.{first_fault, fault_if, MayRefuse}
use Rattle.cq_binder_rules.specs.RowChecks.{row_checks}
use Rattle.cq_binder_rules.specs.Refusal.{content_checks, insert_checks, checks, name_checks, reads_source, refusal, written_table}
use Rattle.cq_model_state.specs.State.{TableOf, State, rows_in, table_named, view_named, view_place, AreNumbered}
use Rattle.cq_model_step.specs.Output.{source_failures}
use Rattle.cq_model_step.specs.Step.{Refuses, by_walk, for_memory, memory_on_the_way, source_failed, too_large, Step}
use Rattle.cq_model_step.specs.declared.answer.Answer.TheVariants.{Count, Done, Rows}
use Rattle.cq_binder_queries.specs.Catalog.{alone as bare}
use Rattle.cq_binder_rules.proofs.Clean.{is_source, tells_source}
use Rattle.cq_binder_rules.proofs.Sourceless.{sourceless}
use Rattle.cq_binder.specs.Sourced.{IsBound, names_file, alone, over, failed}
use Rattle.cq_binder_rules.specs.Sources.{AreTold, reads_behind}
use Rattle.cq_binder.specs.Binding.{BindsAlone, BindsOver, binding_checks, records_walk, rows_walk, sets_walk}
use Rattle.cq_binder_queries.proofs.Faults.{first_fault_append, or_next, single}
use Rattle.cq_engine.specs.Commands.{CarriesOut, IsRefused, MayBeRefused, MayGiveUp, room}
use Rattle.cq_table.specs.Checks.{value_fault}
use Rattle.cq_engine.proofs.Counting.{grown_by_none, grown_by_one, none_counted, one_counted}
use Rattle.cq_binder.proofs.CopiedFiles.{some_files}
use Rattle.cq_engine.proofs.FoundByName.{columns-found, mapped, rows-found}

-- nothing but the tables and views is asked
same_binding : (files : Files) (s : State) (statement : Statement) → (binding_checks files (bare s.tables s.views) statement ≡ binding_checks files s statement) × (bound files (bare s.tables s.views) statement ≡ bound files s statement)
same_binding files s (statements.CreateTable name columns sort) = (refl, refl)
same_binding files s (statements.DropTable name) = (refl, refl)
same_binding files s (statements.CreateView name view) = (refl, refl)
same_binding files s (statements.DropView name) = (refl, refl)
same_binding files s (statements.Insert name rows) = (refl, refl)
same_binding files s (statements.Copy name file) = (refl, refl)
same_binding files s (statements.Delete name condition) = (refl, refl)
same_binding files s (statements.Update name sets condition) = (refl, refl)
same_binding files s (statements.Select q) = (refl, refl)
same_binding files s (statements.Move name rows) = (refl, refl)
same_binding files s (statements.Merge name) = (refl, refl)
same_binding files s (statements.Refresh view changes) = (refl, refl)

same_reads : (s : State) (statement : Statement) → reads_source (bare s.tables s.views) statement ≡ reads_source s statement
same_reads s (statements.Copy name file) = refl
same_reads s statement = refl

-- so its source is read as often as the statement has it read in the whole state
pub bind_reads : (s : State) (statement : Statement) (before after : ℕ)
    → after ≡ reads_behind (reads_source (bare s.tables s.views) statement) before → after ≡ reads_behind (reads_source s statement) before
bind_reads s statement before after e = e ∙ ap (λ (b : Bool). reads_behind b before) (same_reads s statement)

-- a statement is bound over these files, or its source has failed
abbrev pub IsOver : Files → State → Statement → ℕ → ℕ → Result Bound Fault → Type 0
IsOver files s statement before after result =
    (BindsOver files s statement result × (after ≡ before)) ⊎ ((reads_source s statement ≡ true) × (result ≡ Err faults.SourceFailed) × (after ≡ before + 1))

-- a statement that names no file is bound over any
over_any : (files : Files) (s : State) (statement : Statement) (result : Result Bound Fault) → names_file statement ≡ false → BindsAlone s statement result → BindsOver files s statement result
over_any files s (statements.Copy name file) result none h = absurd (cc none)
over_any files s statement result none h = h

-- so each statement that is bound is bound over files that its source may hold
pub bound_over : (told : Option Files) (s : State) (statement : Statement) (before after : ℕ) (result : Result Bound Fault) → IsBound told s statement before after result
    → (files : Files) × AreTold told files × IsOver files s statement before after result
bound_over told s statement before after result (alone none h same) =
    let any = some_files told in (any.0, any.1, inl (over_any any.0 s statement result none h, same))
bound_over told s statement before after result (over files are h same) = (files, are, inl (h, same))
bound_over told s statement before after result (failed reads is more) = let any = some_files told in (any.0, any.1, inr (reads, is, more))

-- what was bound to a command passed its walk, and no read failed
pub passed_over : (files : Files) (s : State) (statement : Statement) (before after : ℕ) (command : Bound) → IsOver files s statement before after (Ok command)
    → (after ≡ before) × (first_fault (binding_checks files s statement) ≡ None) × (bound files s statement ≡ Some command)
passed_over files s statement before after command (inl h) = (h.1, h.0.0, h.0.1)
passed_over files s statement before after command (inr h) = absurd (cc h.1)

-- a fault of the rows comes before the room for them
insert_refuses : (max_rows : ℕ) (rows : List (List Constant)) (table : Result TableOf Fault) (f : Fault) → first_fault (rows_walk rows table) ≡ Some f → first_fault (insert_checks max_rows rows table) ≡ Some f
insert_refuses max_rows rows (Err g) f e = e
insert_refuses max_rows rows (Ok t) f e =
    let walk = flat_map (row_checks t.columns) rows in
    let fits : List (Option Fault) = fault_if (nat_lt max_rows (length t.rows + length rows)) faults.TableFull ∷ [] in
    first_fault_append walk fits ∙ ap (λ (o : Option Fault). option_or o (first_fault fits)) e

-- and one of the walk before the values of an UPDATE
update_refuses : (condition : Option Written) (sets : List SetClause) (table : Result TableOf Fault) (f : Fault) → first_fault (sets_walk condition sets table) ≡ Some f → first_fault (update_checks condition sets table) ≡ Some f
update_refuses condition sets (Err g) f e = e
update_refuses condition sets (Ok t) f e =
    let walk = update_walk condition sets (scope_of (from_table t)) in
    let values = row_checks_of condition sets t in
    first_fault_append walk values ∙ ap (λ (o : Option Fault). option_or o (first_fault values)) e

-- and one of a file before the room for its rows
copy_refuses : (max_rows : ℕ) (file bytes : List ℕ) (table : Result TableOf Fault) (f : Fault) → first_fault (name_checks file table ++ records_walk bytes table) ≡ Some f → first_fault (name_checks file table ++ content_checks max_rows bytes table) ≡ Some f
copy_refuses max_rows file bytes (Err g) f e = e
copy_refuses max_rows file bytes (Ok t) f e =
    let walk = name_checks file (Ok t) ++ records_walk bytes (Ok t) in
    let fits : List (Option Fault) = fault_if (nat_lt max_rows (length t.rows + length (rows_read t bytes))) faults.TableFull ∷ [] in
    first_fault_append walk fits ∙ ap (λ (o : Option Fault). option_or o (first_fault fits)) e

module _ (files : Files) (old : State) (numbered : AreNumbered old.tables old.drawn) where
  walk_refuses : (statement : Statement) (f : Fault) → first_fault (binding_checks files old statement) ≡ Some f → refusal files old statement ≡ Some f
  walk_refuses (statements.CreateTable name columns sort) f e = e
  walk_refuses (statements.DropTable name) f e = e
  walk_refuses (statements.CreateView name view) f e = e
  walk_refuses (statements.DropView name) f e = e
  walk_refuses (statements.Insert name rows) f e = insert_refuses old.max_rows rows (written_table name old) f e
  walk_refuses (statements.Copy name file) f e = copy_refuses old.max_rows file (files file) (written_table name old) f e
  walk_refuses (statements.Delete name condition) f e = e
  walk_refuses (statements.Update name sets condition) f e = update_refuses condition sets (written_table name old) f e
  walk_refuses (statements.Select q) f e = e
  walk_refuses (statements.Move name rows) f e = e
  walk_refuses (statements.Merge name) f e = e
  walk_refuses (statements.Refresh view changes) f e = e

  refused_along_walk : (statement : Statement) (f : Fault) → MayRefuse (first_fault (binding_checks files old statement)) f → Refuses files old statement f old
  refused_along_walk statement faults.Memory m = for_memory refl refl
  refused_along_walk statement f m = by_walk (walk_refuses statement f m) refl

  -- a refusal of the walk tells of no source
  walk_unsourced : (statement : Statement) (f : Fault) → MayRefuse (first_fault (binding_checks files old statement)) f → is_source f ≡ false
  walk_unsourced statement faults.Memory m = refl
  walk_unsourced statement f m = ap tells_source (sym (walk_refuses statement f m)) ∙ sourceless files old statement

  -- a statement that is not bound is refused
  pub bind_refused : (statement : Statement) (f : Fault) (before after : ℕ) → IsOver files (bare old.tables old.views) statement before after (Err f) → Refuses files old statement f old
  bind_refused statement f before after (inl h) = refused_along_walk statement f (subst (λ (cs : List (Option Fault)). MayRefuse (first_fault cs) f) (same_binding files old statement).0 h.0)
  bind_refused statement f before after (inr h) = source_failed (sym (same_reads old statement) ∙ h.0) (cc h.1) refl

  -- and the count of failures has grown where its source failed
  pub bind_counted : (statement : Statement) (f : Fault) (before after : ℕ) → IsOver files (bare old.tables old.views) statement before after (Err f) → after ≡ before + source_failures (Err f ∷ [])
  bind_counted statement f before after (inl h) =
      grown_by_none before after _ h.1 (none_counted f (walk_unsourced statement f (subst (λ (cs : List (Option Fault)). MayRefuse (first_fault cs) f) (same_binding files old statement).0 h.0)))
  bind_counted statement f before after (inr h) = grown_by_one before after _ h.2 (one_counted f (cc h.1))

  module _ (statement : Statement) (command : Bound) (free_alone : first_fault (binding_checks files (bare old.tables old.views) statement) ≡ None) (is_alone : bound files (bare old.tables old.views) statement ≡ Some command) where
    free : first_fault (binding_checks files old statement) ≡ None
    free = sym (ap first_fault (same_binding files old statement).0) ∙ free_alone

    -- its command is that of the whole state
    pub bound_here : bound files old statement ≡ Some command
    bound_here = sym (same_binding files old statement).1 ∙ is_alone

  -- where it is bound, the room for its rows is all that can still refuse it
  insert_room : (name : List ℕ) (rows : List (List Constant)) (t : TableOf) → table_named name old.tables ≡ Some t → first_fault (rows_walk rows (written_table name old)) ≡ None
      → refusal files old (statements.Insert name rows) ≡ room old (commands.Insert t.number (map row_of rows))
  insert_room name rows t found none =
      let fault = if is_some (view_named name old.views) then faults.ViewNotWritten else faults.UnknownTable in
      let walk = flat_map (row_checks t.columns) rows in
      let asked : ℕ → Option Fault = λ n. fault_if (nat_lt old.max_rows n) faults.TableFull in
      let passed : first_fault walk ≡ None = subst (λ (o : Option TableOf). first_fault (rows_walk rows (ok_or o fault)) ≡ None) found none in
      let count : length t.rows + length rows ≡ length (rows_in old.tables t.number) + length (map row_of rows) = λ i. length (sym (rows-found name t old.tables old.drawn numbered found) i) + sym (length-map rows row_of) i in
      ap (λ (o : Option TableOf). first_fault (insert_checks old.max_rows rows (ok_or o fault))) found
      ∙ first_fault_append walk (asked (length t.rows + length rows) ∷ [])
      ∙ or_next (first_fault walk) (first_fault (asked (length t.rows + length rows) ∷ [])) passed
      ∙ single (nat_lt old.max_rows (length t.rows + length rows)) faults.TableFull
      ∙ ap asked count

  -- so it is for the rows of a file
  copy_room : (name file : List ℕ) (t : TableOf) → table_named name old.tables ≡ Some t → first_fault (name_checks file (written_table name old) ++ records_walk (files file) (written_table name old)) ≡ None
      → refusal files old (statements.Copy name file) ≡ room old (commands.Insert t.number (rows_read t (files file)))
  copy_room name file t found none =
      let fault = if is_some (view_named name old.views) then faults.ViewNotWritten else faults.UnknownTable in
      let bytes = files file in
      let rows = rows_read t bytes in
      let walk = name_checks file (Ok t) ++ records_walk bytes (Ok t) in
      let asked : ℕ → Option Fault = λ n. fault_if (nat_lt old.max_rows n) faults.TableFull in
      let passed : first_fault walk ≡ None = subst (λ (o : Option TableOf). first_fault (name_checks file (ok_or o fault) ++ records_walk bytes (ok_or o fault)) ≡ None) found none in
      let count : length t.rows + length rows ≡ length (rows_in old.tables t.number) + length rows = λ i. length (sym (rows-found name t old.tables old.drawn numbered found) i) + length rows in
      ap (λ (o : Option TableOf). first_fault (name_checks file (ok_or o fault) ++ content_checks old.max_rows bytes (ok_or o fault))) found
      ∙ first_fault_append walk (asked (length t.rows + length rows) ∷ [])
      ∙ or_next (first_fault walk) (first_fault (asked (length t.rows + length rows) ∷ [])) passed
      ∙ single (nat_lt old.max_rows (length t.rows + length rows)) faults.TableFull
      ∙ ap asked count

  -- and the values that rows get are all that can still refuse an UPDATE
  update_room : (name : List ℕ) (sets : List SetClause) (condition : Option Written) (t : TableOf) → table_named name old.tables ≡ Some t → first_fault (sets_walk condition sets (written_table name old)) ≡ None
      → refusal files old (statements.Update name sets condition) ≡ room old (bound_update sets condition t)
  update_room name sets condition t found none =
      let fault = if is_some (view_named name old.views) then faults.ViewNotWritten else faults.UnknownTable in
      let s = scope_of (from_table t) in
      let walk = update_walk condition sets s in
      let values = row_checks_of condition sets t in
      let free : first_fault walk ≡ None = subst (λ (o : Option TableOf). first_fault (sets_walk condition sets (ok_or o fault)) ≡ None) found none in
      ap (λ (o : Option TableOf). first_fault (update_checks condition sets (ok_or o fault))) found
      ∙ first_fault_append walk values
      ∙ or_next (first_fault walk) (first_fault values) free
      ∙ (λ i. value_fault (sym (columns-found name t old.tables old.drawn numbered found) i) (bound_sets s sets) (bound_where s condition) (sym (rows-found name t old.tables old.drawn numbered found) i))

  room_decides : (statement : Statement) (command : Bound) → first_fault (binding_checks files old statement) ≡ None → bound files old statement ≡ Some command → refusal files old statement ≡ room old command
  room_decides (statements.CreateTable name columns sort) command none is =
      let same : commands.CreateTable name columns (map (place_in columns) sort) ≡ command = cc is in
      subst (λ (c : Bound). first_fault (checks files old (statements.CreateTable name columns sort)) ≡ room old c) same none
  room_decides (statements.DropTable name) command none is =
      let m = mapped (λ t. commands.DropTable t.number) (table_named name old.tables) command is in
      subst (λ (c : Bound). refusal files old (statements.DropTable name) ≡ room old c) m.2 none
  room_decides (statements.CreateView name view) command none is =
      let m = mapped (bound_view name view) (standing (view_walk old view)) command is in
      subst (λ (c : Bound). refusal files old (statements.CreateView name view) ≡ room old c) m.2 none
  room_decides (statements.DropView name) command none is =
      let m = mapped commands.DropView (view_place name old.views) command is in
      subst (λ (c : Bound). refusal files old (statements.DropView name) ≡ room old c) m.2 none
  room_decides (statements.Insert name rows) command none is =
      let m = mapped (λ t. commands.Insert t.number (map row_of rows)) (table_named name old.tables) command is in
      subst (λ (c : Bound). refusal files old (statements.Insert name rows) ≡ room old c) m.2 (insert_room name rows m.0 m.1 none)
  room_decides (statements.Copy name file) command none is =
      let m = mapped (λ t. commands.Insert t.number (rows_read t (files file))) (table_named name old.tables) command is in
      subst (λ (c : Bound). refusal files old (statements.Copy name file) ≡ room old c) m.2 (copy_room name file m.0 m.1 none)
  room_decides (statements.Delete name condition) command none is =
      let m = mapped (λ t. commands.Delete t.number (option_map (bound_condition (scope_of (from_table t))) condition)) (table_named name old.tables) command is in
      subst (λ (c : Bound). refusal files old (statements.Delete name condition) ≡ room old c) m.2 none
  room_decides (statements.Update name sets condition) command none is =
      let m = mapped (bound_update sets condition) (table_named name old.tables) command is in
      subst (λ (c : Bound). refusal files old (statements.Update name sets condition) ≡ room old c) m.2 (update_room name sets condition m.0 m.1 none)
  room_decides (statements.Select q) command none is =
      let m = mapped (bound_select q) (standing (from_walk old q)) command is in
      subst (λ (c : Bound). refusal files old (statements.Select q) ≡ room old c) m.2 none
  room_decides (statements.Move name rows) command none is =
      let m = mapped (λ t. commands.Move t.number rows) (table_named name old.tables) command is in
      subst (λ (c : Bound). refusal files old (statements.Move name rows) ≡ room old c) m.2 none
  room_decides (statements.Merge name) command none is =
      let m = mapped (λ t. commands.Merge t.number) (table_named name old.tables) command is in
      subst (λ (c : Bound). refusal files old (statements.Merge name) ≡ room old c) m.2 none
  room_decides (statements.Refresh view changes) command none is =
      let m = mapped (λ place. commands.Refresh place changes) (view_place view old.views) command is in
      subst (λ (c : Bound). refusal files old (statements.Refresh view changes) ≡ room old c) m.2 none

  module _ (statement : Statement) (command : Bound) (free_alone : first_fault (binding_checks files (bare old.tables old.views) statement) ≡ None) (is_alone : bound files (bare old.tables old.views) statement ≡ Some command) where
    decides : refusal files old statement ≡ room old command
    decides = room_decides statement command (free statement command free_alone is_alone) (bound_here statement command free_alone is_alone)

    room_refused : (f : Fault) (new : State) → MayRefuse (room old command) f → new ≡ old → Refuses files old statement f new
    room_refused faults.Memory new m same = for_memory refl same
    room_refused f new m same = by_walk (decides ∙ m) same

    carried_refused : (f : Fault) (new : State) → IsRefused old command f new → Refuses files old statement f new
    carried_refused f new (inl w) = room_refused f new w.0 w.1
    carried_refused f new (inr (nothing, inl memory, gives)) = memory_on_the_way command (decides ∙ nothing) (bound_here statement command free_alone is_alone) memory gives
    carried_refused f new (inr (nothing, inr large, gives)) = too_large command (decides ∙ nothing) (bound_here statement command free_alone is_alone) large.1 large.0 gives

    room_unsourced : (f : Fault) → MayRefuse (room old command) f → is_source f ≡ false
    room_unsourced faults.Memory m = refl
    room_unsourced f m = ap tells_source (sym (decides ∙ m)) ∙ sourceless files old statement

    refused_unsourced : (f : Fault) (new : State) → IsRefused old command f new → is_source f ≡ false
    refused_unsourced f new (inl w) = room_unsourced f w.0
    refused_unsourced f new (inr (nothing, inl memory, gives)) = ap is_source memory
    refused_unsourced f new (inr (nothing, inr large, gives)) = ap is_source large.0

    -- a command that is carried out reads no source
    pub carried_counts : (result : Result Answer Fault) (new : State) → CarriesOut old command result new → source_failures (result ∷ []) ≡ 0
    carried_counts (Ok answer) new c = refl
    carried_counts (Err f) new c = none_counted f (refused_unsourced f new c)

    -- a command that is carried out is the step of its statement
    pub carried : (result : Result Answer Fault) (new : State) → CarriesOut old command result new → Step files old statement result new
    carried (Ok answer) new c = record { free = decides ∙ c.0; command = command; is_bound = bound_here statement command free_alone is_alone; accepts = c.1 }
    carried (Err f) new c = carried_refused f new c

    -- one that answers rows may as well have been refused
    pub carried_late : (told : Option Files) → AreTold told files → (result : Result Answer Fault) (new : State) → MayGiveUp old command result new → MayBeRefused told old statement result new
    carried_late told are (Ok (Rows header rows)) new late = (files, are, carried_refused faults.Memory new late)
    carried_late told are (Ok Done) new late = tt
    carried_late told are (Ok (Count n)) new late = tt
    carried_late told are (Err f) new late = tt
