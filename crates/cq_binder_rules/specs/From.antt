-- FROM: its sources, each joined to those before it by equalities of columns (ISO 9075-2, 7.5 to 7.7 and 7.10).
use Rattle.std.specs.Prelude.{ℕ, ◌+◌, ◌-◌, nat_lt, Bool, true, false, ◌&&◌, ◌||◌, not, if◌then◌else◌, List, [], ◌∷◌, ◌++◌, map, length, Option, Some, None, Result, Ok, Err}
use denote.Enum.Bare.{sameb}
use Rattle.cq_values.specs.contracts.ty.Ty as ty
use Rattle.cq_model.specs.declared.query.Equality.{Equality}
use Rattle.cq_model.specs.declared.query.Join.{Join}
use Rattle.cq_model.specs.declared.query.Source.{Source}
use Rattle.cq_model.specs.declared.query.Source.TheVariants.{Table, View}
use Rattle.cq_sql_language.specs.declared.statement.FromSource.{FromSource}
use Rattle.cq_sql_language.specs.declared.statement.JoinedSource.{JoinedSource}
use Rattle.cq_sql_language.specs.declared.statement.OnEquality.{OnEquality}
use Rattle.cq_sql_language.specs.declared.statement.Select.{Select}
use Rattle.cq_model_state.specs.State.{State}
use Rattle.cq_binder_rules.specs.declared.fault.Fault.{Fault}
use Rattle.cq_binder_rules.specs.declared.fault.Fault.TheVariants.{UnknownTable, NameTaken, TypeMismatch, TooManyTables, ClauseInView}
use Rattle.cq_binder_rules.specs.Checks.{first_fault, fault_if}
use Rattle.cq_binder_rules.specs.Kinds.{◌and_then◌, unless}
use Rattle.cq_binder_rules.specs.Places.{row_place}
use Rattle.cq_binder_rules.specs.Scopes.{Named, known_as, source_columns, source_named}
use Rattle.cq_binder_rules.specs.Typing.{ScopeColumn, fault_in, is_known, resolved, type_at}

-- what FROM has joined so far: its sources, their columns, and how many base tables they read
pub record From : Type 0 where
  pub first : Source
  pub joins : List Join
  pub columns : List ScopeColumn
  pub bases : ℕ

-- a query reads at most so many base tables
abbrev pub base_limit : ℕ
base_limit = 4

-- FROM with its first source
abbrev pub first_from : FromSource → Named → From
first_from f source = record { first = source.source; joins = []; columns = source_columns (known_as f source) source; bases = source.bases }

-- ---- ON
-- two columns may be equal: they are of one type, and one is of the source that comes behind so many columns, and one not
abbrev pub may_equal : List ScopeColumn → ℕ → ℕ → ℕ → Bool
may_equal columns before l r =
    sameb ty.the_type (type_at columns l) (type_at columns r)
    && ((nat_lt l before && not (nat_lt r before)) || (not (nat_lt l before) && nat_lt r before))

-- an equality of ON: the left column, the right column, and then both
abbrev pub equality_check : List ScopeColumn → ℕ → OnEquality → Option Fault
equality_check columns before e =
    fault_in (resolved columns e.left and_then λ l. resolved columns e.right and_then λ r. unless (may_equal columns before l r) TypeMismatch l)

-- of two columns, the one of the rows so far, and the one of the source behind so many columns
abbrev pub equality_at : ℕ → ℕ → ℕ → Equality
equality_at before l r = if nat_lt l before then record { left = l; right = r - before } else record { left = r; right = l - before }

abbrev pub equality_of : List ScopeColumn → ℕ → OnEquality → Equality
equality_of columns before e = equality_at before (row_place columns e.left) (row_place columns e.right)

-- ---- Sources that are joined
-- the columns with those of a source behind them
abbrev pub columns_with : List ScopeColumn → FromSource → Named → List ScopeColumn
columns_with columns f source = columns ++ source_columns (known_as f source) source

-- a source behind the columns that stand before it, with the equalities by which it is joined
abbrev pub join_of : List ScopeColumn → JoinedSource → Named → Join
join_of columns j source = record { source = source.source; on = map (equality_of (columns_with columns j.source source) (length columns)) j.on }

-- FROM with a source behind the others
abbrev pub joined_with : From → JoinedSource → Named → From
joined_with from j source = record {
  first = from.first;
  joins = from.joins ++ join_of from.columns j source ∷ [];
  columns = columns_with from.columns j.source source;
  bases = from.bases + source.bases;
}

-- what stands, unless there is a fault
abbrev pub passing : {A : Type 0} → Option Fault → A → Result A Fault
passing None x = Ok x
passing (Some f) x = Err f

-- ---- The walk, where it is asked of each source whether it may stand in FROM
-- a source that is joined: its name is its own, there are not too many base tables, it may stand there, and then each equality
abbrev pub join_checks : (Named → Option Fault) → From → JoinedSource → Named → List (Option Fault)
join_checks may from j source =
    fault_if (is_known from.columns (known_as j.source source)) NameTaken
    ∷ fault_if (nat_lt base_limit (from.bases + source.bases)) TooManyTables
    ∷ may source
    ∷ map (equality_check (columns_with from.columns j.source source) (length from.columns)) j.on

-- the walk through a source that is joined, once it is looked up
abbrev pub join_walk : (Named → Option Fault) → From → JoinedSource → Option Named → Result From Fault
join_walk may from j None = Err UnknownTable
join_walk may from j (Some source) = passing (first_fault (join_checks may from j source)) (joined_with from j source)

-- the walk through the sources behind those so far
abbrev pub joins_walk : (Named → Option Fault) → State → From → List JoinedSource → Result From Fault
joins_walk may s from [] = Ok from
joins_walk may s from (j ∷ js) = join_walk may from j (source_named j.source.name s) and_then λ wide. joins_walk may s wide js

-- the walk through the first source, once it is looked up
abbrev pub first_walk : (Named → Option Fault) → FromSource → Option Named → Result From Fault
first_walk may f None = Err UnknownTable
first_walk may f (Some source) = passing (may source) (first_from f source)

-- the walk through all sources
abbrev pub sources_walk : (Named → Option Fault) → State → Select → Result From Fault
sources_walk may s q = first_walk may q.first (source_named q.first.name s) and_then λ from. joins_walk may s from q.joins

-- ---- What may stand in FROM
-- SELECT reads tables and views
abbrev pub any_source : Named → Option Fault
any_source source = None

-- the walk through the FROM of a SELECT
abbrev pub from_walk : State → Select → Result From Fault
from_walk s q = sources_walk any_source s q

-- whether a source is a view
abbrev pub is_any_view : Source → Bool
is_any_view (Table t) = false
is_any_view (View v) = true

-- a view reads tables alone
abbrev pub no_view : Named → Option Fault
no_view source = fault_if (is_any_view source.source) ClauseInView

-- the walk through the FROM of a view
abbrev pub view_walk : State → Select → Result From Fault
view_walk s v = sources_walk no_view s v
