-- Which refusal a statement gets: the walk through its checks, each of which has its fault or none; the first fault wins
-- (docs/LANGUAGE.md, Refusals).
use Rattle.std.specs.Prelude.{ℕ, ◌+◌, nat_lt, Bool, false, if◌then◌else◌, List, [], ◌∷◌, ◌++◌, map, length, Option, Some, None, is_some, is_none, ok_or, Result, Ok, Err}
use Rattle.std.specs.List.{list_any, flat_map}
use Rattle.cq_values.specs.Texts.{is_text}
use Rattle.cq_values.specs.declared.column.ColumnDef.{ColumnDef}
use Rattle.cq_sql_language.specs.declared.statement.Constant.{Constant}
use Rattle.cq_sql_language.specs.declared.statement.Select.{Select}
use Rattle.cq_sql_language.specs.declared.statement.Statement.{Statement}
use Rattle.cq_sql_language.specs.declared.statement.Statement.TheVariants as statements
use Rattle.cq_model.specs.Sizes.{text_limit}
use Rattle.cq_model.specs.Views.{sources_of, is_table}
use Rattle.cq_sql_language.specs.Written.{Written}
use Rattle.cq_binder_rules.specs.declared.fault.Fault.{Fault}
use Rattle.cq_binder_rules.specs.declared.fault.Fault.TheVariants.{UnknownTable, NameTaken, TableFull, TableInUse, TextTooLong, ViewNotWritten}
use Rattle.cq_binder_rules.specs.Scopes.{from_table, of_rows, scope_of}
use Rattle.cq_binder_rules.specs.From.{From, from_walk}
use Rattle.cq_binder_rules.specs.Bound.{rows_read}
use Rattle.cq_binder_rules.specs.Grouping.{item_scope}
use Rattle.cq_binder_rules.specs.Headers.{header, shown_by}
use Rattle.cq_model_state.specs.State.{TableOf, ViewOf, State, table_named, view_place, view_named, is_taken}
use Rattle.cq_binder_rules.specs.Typing.{ScopeColumn, fault_in}
use Rattle.cq_binder_rules.specs.Checks.{first_fault, fault_if, too_long}
use Rattle.cq_binder_rules.specs.Orders.{order_checks}
use Rattle.cq_binder_rules.specs.Records.{Files, file_rows}
use Rattle.cq_binder_rules.specs.RowChecks.{row_checks}
use Rattle.cq_binder_rules.specs.SourceChecks.{group_checks, name_check, value_check, where_check}
use Rattle.cq_binder_rules.specs.UpdateChecks.{update_checks}
use Rattle.cq_binder_rules.specs.ViewChecks.{create_view_checks}

-- each column, whose name no earlier one has
abbrev pub column_checks : List ColumnDef → List ColumnDef → List (Option Fault)
column_checks before [] = []
column_checks before (c ∷ cs) = fault_if (list_any (λ b. is_text b.name c.name) before) NameTaken ∷ column_checks (before ++ c ∷ []) cs

-- SORT BY: each column is there, and no earlier one
abbrev pub sort_checks : List ColumnDef → List (List ℕ) → List (List ℕ) → List (Option Fault)
sort_checks columns before [] = []
sort_checks columns before (name ∷ names) =
    name_check columns name ∷ fault_if (list_any (λ b. is_text b name) before) NameTaken ∷ sort_checks columns (before ++ name ∷ []) names

-- CREATE TABLE: the name, each column, the list, SORT BY
abbrev pub create_checks : List ℕ → List ColumnDef → List (List ℕ) → State → List (Option Fault)
create_checks name columns sort s =
    fault_if (is_taken name s) NameTaken ∷ column_checks [] columns ++ too_long (length columns) ∷ sort_checks columns [] sort

-- whether a view stands on the table of a number
abbrev pub is_used : ℕ → List ViewOf → Bool
is_used n views = list_any (λ v. list_any (is_table n) (sources_of v.query)) views

-- DROP TABLE: the name, then whether a view stands on the table
abbrev pub drop_table_checks : List ViewOf → Option TableOf → List (Option Fault)
drop_table_checks views None = Some UnknownTable ∷ []
drop_table_checks views (Some t) = fault_if (is_used t.number views) TableInUse ∷ []

-- the table that a statement writes: views are not written
abbrev pub written_table : List ℕ → State → Result TableOf Fault
written_table name s = ok_or (table_named name s.tables) (if is_some (view_named name s.views) then ViewNotWritten else UnknownTable)

-- INSERT: the name, each row, then whether the rows fit the table
abbrev pub insert_checks : ℕ → List (List Constant) → Result TableOf Fault → List (Option Fault)
insert_checks max_rows rows (Err f) = Some f ∷ []
insert_checks max_rows rows (Ok t) = flat_map (row_checks t.columns) rows ++ fault_if (nat_lt max_rows (length t.rows + length rows)) TableFull ∷ []

-- COPY before its file is read: the table's name, the file's name
abbrev pub name_checks : List ℕ → Result TableOf Fault → List (Option Fault)
name_checks file table = fault_in table ∷ fault_if (nat_lt text_limit (length file)) TextTooLong ∷ []

-- COPY behind them: the records of the file, then whether their rows fit the table
abbrev pub content_checks : ℕ → List ℕ → Result TableOf Fault → List (Option Fault)
content_checks max_rows bytes (Err f) = []
content_checks max_rows bytes (Ok t) =
    fault_in (file_rows t.columns bytes) ∷ fault_if (nat_lt max_rows (length t.rows + length (rows_read t bytes))) TableFull ∷ []

-- whether a statement reads its source: COPY, where no check before that has a fault
abbrev pub reads_source : State → Statement → Bool
reads_source s (statements.Copy name file) = is_none (first_fault (name_checks file (written_table name s)))
reads_source s statement = false

-- DELETE: the name, WHERE
abbrev pub delete_checks : Option Written → Result TableOf Fault → List (Option Fault)
delete_checks condition (Err f) = Some f ∷ []
delete_checks condition (Ok t) = where_check (scope_of (from_table t)) condition ∷ []

-- what a SELECT's bag is worked out by: WHERE, GROUP BY, each item, the list of items, HAVING
abbrev pub bag_checks : Select → List ScopeColumn → List (Option Fault)
bag_checks q columns =
    where_check (of_rows columns) q.condition
    ∷ group_checks columns q.group
    ++ (map (value_check (item_scope q columns)) (shown_by q.items) ++ too_long (length q.items) ∷ where_check (item_scope q columns) q.having ∷ [])

-- SELECT behind FROM: its bag, then ORDER BY over the names of its items
abbrev pub source_checks : Select → List ScopeColumn → List (Option Fault)
source_checks q columns = bag_checks q columns ++ order_checks (header 1 q.items) q.order

-- SELECT: FROM, and what stands behind it
abbrev pub select_checks : Select → Result From Fault → List (Option Fault)
select_checks q (Err f) = Some f ∷ []
select_checks q (Ok from) = source_checks q from.columns

-- MOVE and MERGE: the name
abbrev pub table_checks : Result TableOf Fault → List (Option Fault)
table_checks (Err f) = Some f ∷ []
table_checks (Ok t) = []

-- DROP VIEW and REFRESH: the name
abbrev pub view_checks : Option ℕ → List (Option Fault)
view_checks place = fault_if (is_none place) UnknownTable ∷ []

-- the checks of a statement, in the order of the walk, where its source holds these files
abbrev pub checks : Files → State → Statement → List (Option Fault)
checks files s (statements.CreateTable name columns sort) = create_checks name columns sort s
checks files s (statements.DropTable name) = drop_table_checks s.views (table_named name s.tables)
checks files s (statements.CreateView name query) = create_view_checks name query s
checks files s (statements.DropView name) = view_checks (view_place name s.views)
checks files s (statements.Insert name rows) = insert_checks s.max_rows rows (written_table name s)
checks files s (statements.Copy name file) =
    name_checks file (written_table name s) ++ content_checks s.max_rows (files file) (written_table name s)
checks files s (statements.Delete name condition) = delete_checks condition (written_table name s)
checks files s (statements.Update name sets condition) = update_checks condition sets (written_table name s)
checks files s (statements.Select q) = select_checks q (from_walk s q)
checks files s (statements.Move name rows) = table_checks (written_table name s)
checks files s (statements.Merge name) = table_checks (written_table name s)
checks files s (statements.Refresh name changes) = view_checks (view_place name s.views)

-- the refusal of a statement, if it has one; want of memory is no part of the walk
abbrev pub refusal : Files → State → Statement → Option Fault
refusal files s statement = first_fault (checks files s statement)
