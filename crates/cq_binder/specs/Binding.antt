-- What binding a statement gives.
use Rattle.std.specs.Prelude.{◌≡◌, if◌then◌else◌, ℕ, List, [], ◌∷◌, ◌++◌, Option, Some, Result, Ok, Err}
use Rattle.std.specs.List.{flat_map}
use Rattle.cq_binder_rules.specs.declared.bound.Bound.{Bound}
use Rattle.cq_sql_language.specs.declared.statement.Constant.{Constant}
use Rattle.cq_sql_language.specs.declared.statement.SetClause.{SetClause}
use Rattle.cq_sql_language.specs.declared.statement.Statement.{Statement}
use Rattle.cq_sql_language.specs.declared.statement.Statement.TheVariants as statements
use Rattle.cq_sql_language.specs.Written.{Written}
use Rattle.cq_binder_rules.specs.declared.fault.Fault.{Fault}
use Rattle.cq_binder_rules.specs.declared.fault.Fault.TheVariants.{UnknownTable, ViewNotWritten}
use Rattle.cq_binder_rules.specs.Scopes.{from_table, scope_of}
use Rattle.cq_binder_rules.specs.UpdateChecks.{update_walk}
use Rattle.cq_binder_rules.specs.Bound.{bound}
use Rattle.cq_binder_rules.specs.RowChecks.{row_checks}
use Rattle.cq_binder_rules.specs.Records.{Files, file_rows}
use Rattle.cq_binder_rules.specs.Refusal.{checks, name_checks, written_table}
use Rattle.cq_binder_rules.specs.Typing.{fault_in}
use Rattle.cq_model_state.specs.State.{TableOf, ViewOf, State}
use Rattle.cq_binder_queries.specs.Catalog.{names_view}
use Rattle.cq_binder_queries.specs.Walk.{Walked}

-- why a statement cannot write to a name that no table has: a view has it, or nothing
abbrev pub unwritten_fault : List ℕ → List ViewOf → Fault
unwritten_fault name views = if names_view name views then ViewNotWritten else UnknownTable

-- INSERT: the name, then each row
abbrev pub rows_walk : List (List Constant) → Result TableOf Fault → List (Option Fault)
rows_walk rows (Err f) = Some f ∷ []
rows_walk rows (Ok t) = flat_map (row_checks t.columns) rows

-- UPDATE: the name, and the walk through WHERE and SET
abbrev pub sets_walk : Option Written → List SetClause → Result TableOf Fault → List (Option Fault)
sets_walk condition sets (Err f) = Some f ∷ []
sets_walk condition sets (Ok t) = update_walk condition sets (scope_of (from_table t))

-- COPY: its names, then the records of its file
abbrev pub records_walk : List ℕ → Result TableOf Fault → List (Option Fault)
records_walk bytes (Err f) = []
records_walk bytes (Ok t) = fault_in (file_rows t.columns bytes) ∷ []

-- the checks of a statement that are seen without any row of a table: all but whether the rows of an INSERT or a COPY fit,
-- and the values that an UPDATE gives
abbrev pub binding_checks : Files → State → Statement → List (Option Fault)
binding_checks files s (statements.Insert name rows) = rows_walk rows (written_table name s)
binding_checks files s (statements.Copy name file) = name_checks file (written_table name s) ++ records_walk (files file) (written_table name s)
binding_checks files s (statements.Update name sets condition) = sets_walk condition sets (written_table name s)
binding_checks files s statement = checks files s statement

-- a statement becomes its command over these files where none of these checks has a fault
abbrev pub BindsOver : Files → State → Statement → Result Bound Fault → Type 0
BindsOver files s statement result = Walked (binding_checks files s statement) (λ command. bound files s statement ≡ Some command) result

-- the same of a statement that reads no file
abbrev pub BindsAlone : State → Statement → Result Bound Fault → Type 0
BindsAlone s statement result = BindsOver (λ name. []) s statement result
