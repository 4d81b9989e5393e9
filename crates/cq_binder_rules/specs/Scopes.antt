-- What FROM names, and what expressions over it say once their names are resolved (ISO 9075-2, 7.6).
use Rattle.std.specs.Prelude.{ℕ, List, [], map, length, Option, Some, None, option_map, unwrap_or, position}
use Rattle.std.specs.List.{zip}
use Rattle.std.specs.Option.{option_or}
use Rattle.cq_values.specs.Texts.{is_text}
use Rattle.cq_model.specs.Expr.{Cond}
use Rattle.cq_model.specs.Expr.{Expr}
use Rattle.cq_model.specs.declared.query.Source.{Source}
use Rattle.cq_model.specs.declared.query.Source.TheVariants.{Table, View}
use Rattle.cq_values.specs.declared.column.ColumnDef.{ColumnDef}
use Rattle.cq_sql_language.specs.declared.statement.FromSource.{FromSource}
use Rattle.cq_sql_language.specs.declared.written.ColumnName.{ColumnName}
use Rattle.cq_binder_rules.specs.Placed.{placed_cond, placed_expr}
use Rattle.cq_binder_rules.specs.Places.{group_places}
use Rattle.cq_sql_language.specs.Written.{Written}
use Rattle.cq_model.specs.Sizes.{column_sizes, stored_sizes}
use Rattle.cq_model.specs.Views.{sources_of}
use Rattle.cq_model_state.specs.State.{TableOf, ViewOf, State, table_named, view_place, view_named}
use Rattle.cq_binder_rules.specs.Typing.{Scope, ScopeColumn}

-- where the column of a name stands, if there is one
abbrev pub column_place : List ColumnDef → List ℕ → Option ℕ
column_place columns name = position (λ c. is_text c.name name) columns

-- where the column of a name stands that is there
abbrev pub place_in : List ColumnDef → List ℕ → ℕ
place_in columns name = unwrap_or (column_place columns name) 0

-- an expression over rows
abbrev pub bound_value : Scope → Written → Expr
bound_value s w = placed_expr s [] w

-- a condition over rows
abbrev pub bound_condition : Scope → Written → Cond
bound_condition s condition = placed_cond s [] condition

-- what FROM names: what it is known by, its columns, how large their numbers can be, where its rows come from, and how many
-- base tables it reads
pub record Named : Type 0 where
  pub known : List ℕ
  pub columns : List ColumnDef
  pub sizes : List ℕ
  pub source : Source
  pub bases : ℕ

-- a table as FROM names it
abbrev pub from_table : TableOf → Named
from_table t = record { known = t.name; columns = t.columns; sizes = stored_sizes t.columns; source = Table t.number; bases = 1 }

-- a view, and the place where it stands
abbrev pub from_view : ViewOf → ℕ → Named
from_view v place = record {
  known = v.name;
  columns = v.columns;
  sizes = column_sizes v.query;
  source = View place;
  bases = length (sources_of v.query);
}

-- the table of a name, or else the view
abbrev pub source_named : List ℕ → State → Option Named
source_named name s =
    option_or (option_map from_table (table_named name s.tables))
    (option_map (λ v. from_view v (unwrap_or (view_place name s.views) 0)) (view_named name s.views))

-- a column of a source that is known by this name, with its size
abbrev pub scope_column : List ℕ → (ColumnDef × ℕ) → ScopeColumn
scope_column known column = record { source = known; name = column.0.name; ty = column.0.ty; size = column.1 }

-- the columns of a source that is known by this name
abbrev pub source_columns : List ℕ → Named → List ScopeColumn
source_columns known source = map (scope_column known) (zip source.columns source.sizes)

-- a source is known by its alias, or else by its own name (ISO 9075-2, 7.6)
abbrev pub known_as : FromSource → Named → List ℕ
known_as f source = unwrap_or f.alias source.known

-- what expressions over rows with these columns see
abbrev pub of_rows : List ScopeColumn → Scope
of_rows columns = record { columns = columns; grouped = None }

-- what expressions over a source see of it under its own name
abbrev pub scope_of : Named → Scope
scope_of source = of_rows (source_columns source.known source)

-- what the items of groups see of rows with these columns
abbrev pub in_groups : List ColumnName → List ScopeColumn → Scope
in_groups group columns = record { columns = columns; grouped = Some (group_places columns group) }
