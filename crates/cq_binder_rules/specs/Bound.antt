-- What statements say once their names are resolved (docs/LANGUAGE.md, Statements).
use Rattle.std.specs.Prelude.{ℕ, ◌+◌, ℤ, pos, neg_ℤ, false, if◌then◌else◌, List, [], ◌∷◌, map, Option, Some, None, option_map, unwrap_or, Result, Ok, Err}
use Rattle.cq_values.specs.declared.value.Value.{Value}
use Rattle.cq_values.specs.declared.value.Value.TheVariants.{Null, Number, Text}
use Rattle.cq_values.specs.Value.{Row}
use Rattle.cq_binder_rules.specs.declared.bound.Bound.{Bound}
use Rattle.cq_binder_rules.specs.declared.bound.Bound.TheVariants as commands
use Rattle.cq_values.specs.declared.column.ColumnDef.{ColumnDef}
use Rattle.cq_sql_language.specs.declared.statement.Constant.{Constant}
use Rattle.cq_sql_language.specs.declared.statement.Constant.TheVariants as constants
use Rattle.cq_sql_language.specs.declared.statement.Literal.{Literal}
use Rattle.cq_sql_language.specs.declared.statement.Select.{Select}
use Rattle.cq_sql_language.specs.declared.statement.SelectItem.{SelectItem}
use Rattle.cq_sql_language.specs.declared.statement.SetClause.{SetClause}
use Rattle.cq_sql_language.specs.declared.statement.Statement.{Statement}
use Rattle.cq_sql_language.specs.declared.statement.Statement.TheVariants as statements
use Rattle.cq_binder_rules.specs.Placed.{named_day}
use Rattle.cq_sql_language.specs.Written.{Written}
use Rattle.cq_model_state.specs.State.{TableOf, State, table_named, view_place}
use Rattle.cq_binder_rules.specs.Typing.{Scope, type_of, typed}
use Rattle.cq_binder_rules.specs.Scopes.{place_in, from_table, scope_of}
use Rattle.cq_binder_rules.specs.From.{From, from_walk, view_walk}
use Rattle.cq_binder_rules.specs.Grouping.{item_scope}
use Rattle.cq_binder_rules.specs.Queries.{bound_query}
use Rattle.cq_binder_rules.specs.Records.{Files, file_rows}
use Rattle.cq_binder_rules.specs.declared.fault.Fault.{Fault}
use Rattle.cq_binder_rules.specs.Sets.{bound_sets, bound_where}
use Rattle.cq_binder_rules.specs.Headers.{header, shown_name}
use Rattle.cq_binder_rules.specs.Orders.{order_of}

-- the number that a literal stands for
abbrev pub literal_value : Literal → ℤ
literal_value l = if l.is_negative then neg_ℤ (pos l.magnitude) else pos l.magnitude

-- the value that a constant stands for
abbrev pub constant_value : Constant → Value
constant_value constants.Null = Null
constant_value (constants.Number l) = Number (literal_value l)
constant_value (constants.Text t) = Text t
constant_value (constants.Date t) = named_day t

-- the row that the constants of an INSERT make
abbrev pub row_of : List Constant → Row
row_of row = map constant_value row

-- UPDATE on a table
abbrev pub bound_update : List SetClause → Option Written → TableOf → Bound
bound_update sets condition t =
    commands.Update t.number (bound_sets (scope_of (from_table t)) sets) (bound_where (scope_of (from_table t)) condition)

-- a query with the names above its columns, and the order that ORDER BY and LIMIT say
abbrev pub bound_select : Select → From → Bound
bound_select q from = commands.Select (header 1 q.items) (bound_query q from) (order_of q)

-- what stood, if anything did
abbrev pub standing : {A : Type 0} → Result A Fault → Option A
standing (Ok x) = Some x
standing (Err f) = None

-- the rows that a file gives a table, none where it is refused
abbrev pub rows_read : TableOf → List ℕ → List Row
rows_read t bytes = unwrap_or (standing (file_rows t.columns bytes)) []

-- the columns of a view that its items from a place on are shown as
abbrev pub item_columns : Scope → ℕ → List SelectItem → List ColumnDef
item_columns s place [] = []
item_columns s place (item ∷ items) =
    record { name = unwrap_or item.alias (shown_name place item.value); ty = type_of (typed s item.value); not_null = false }
    ∷ item_columns s (place + 1) items

-- a view of a name, whose columns are its items over what FROM has joined
abbrev pub bound_view : List ℕ → Select → From → Bound
bound_view name v from = commands.CreateView name (item_columns (item_scope v from.columns) 1 v.items) (bound_query v from)

-- a statement whose tables and views are there, with the rows that its file gives
abbrev pub bound : Files → State → Statement → Option Bound
bound files s (statements.CreateTable name columns sort) = Some (commands.CreateTable name columns (map (place_in columns) sort))
bound files s (statements.DropTable name) = option_map (λ t. commands.DropTable t.number) (table_named name s.tables)
bound files s (statements.CreateView name v) = option_map (bound_view name v) (standing (view_walk s v))
bound files s (statements.DropView name) = option_map commands.DropView (view_place name s.views)
bound files s (statements.Insert name rows) = option_map (λ t. commands.Insert t.number (map row_of rows)) (table_named name s.tables)
bound files s (statements.Copy name file) =
    option_map (λ t. commands.Insert t.number (rows_read t (files file))) (table_named name s.tables)
bound files s (statements.Delete name condition) =
    option_map (λ t. commands.Delete t.number (bound_where (scope_of (from_table t)) condition)) (table_named name s.tables)
bound files s (statements.Update name sets condition) = option_map (bound_update sets condition) (table_named name s.tables)
bound files s (statements.Select q) = option_map (bound_select q) (standing (from_walk s q))
bound files s (statements.Move name rows) = option_map (λ t. commands.Move t.number rows) (table_named name s.tables)
bound files s (statements.Merge name) = option_map (λ t. commands.Merge t.number) (table_named name s.tables)
bound files s (statements.Refresh name changes) = option_map (λ place. commands.Refresh place changes) (view_place name s.views)
