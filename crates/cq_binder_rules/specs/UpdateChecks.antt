-- What is asked of an UPDATE: of its assignments, and of the values that they give to the rows of the table
-- (docs/LANGUAGE.md, Statements).
use Rattle.std.specs.Prelude.{ℕ, int_lt, neg_ℤ, pos, Bool, false, ◌&&◌, ◌||◌, not, List, [], ◌∷◌, ◌++◌, map, Option, Some, is_none, unwrap_or, Result, Ok, Err, slice_index_or}
use Rattle.std.specs.List.{flat_map, list_any}
use Rattle.cq_values.specs.Texts.{is_text}
use Rattle.cq_values.specs.declared.column.ColumnDef.{ColumnDef}
use Rattle.cq_values.specs.declared.ty.Ty.{Ty}
use Rattle.cq_values.specs.declared.value.Value.{Value}
use Rattle.cq_values.specs.declared.value.Value.TheVariants.{Number}
use Rattle.cq_values.specs.Value.{Row}
pub use Rattle.cq_values.specs.Value.{is_null}
use Rattle.cq_sql_language.specs.declared.statement.SetClause.{SetClause}
use Rattle.cq_sql_language.specs.Written.{Written}
use Rattle.cq_model.specs.declared.assignment.Assignment.{Assignment}
use Rattle.cq_model.specs.Eval.{eval}
use Rattle.cq_model.specs.Expr.{Cond}
use Rattle.cq_model.specs.Sizes.{stored_size}
use Rattle.cq_model.specs.Write.{chosen}
use Rattle.cq_model_state.specs.State.{TableOf}
use Rattle.cq_binder_rules.specs.declared.fault.Fault.{Fault}
use Rattle.cq_binder_rules.specs.declared.fault.Fault.TheVariants.{UnknownColumn, NameTaken, NumberOutside, NullNotAllowed}
use Rattle.cq_binder_rules.specs.Sets.{bound_sets, bound_where}
use Rattle.cq_binder_rules.specs.Checks.{fault_if}
use Rattle.cq_binder_rules.specs.Places.{named_place}
use Rattle.cq_binder_rules.specs.Scopes.{from_table, scope_of}
use Rattle.cq_binder_rules.specs.SourceChecks.{where_check}
use Rattle.cq_binder_rules.specs.Typing.{Scope, ScopeColumn, fault_in, set_fault, type_at, typed}

-- ---- The walk through a SET
-- the column that is set is there
abbrev pub column_check : List ScopeColumn → List ℕ → Option Fault
column_check columns name = fault_if (is_none (named_place columns name)) UnknownColumn

-- the type of the column of a name
abbrev pub column_type : List ScopeColumn → List ℕ → Ty
column_type columns name = type_at columns (unwrap_or (named_place columns name) 0)

-- the expression gives a value of the column's type; NULL is one of every type
abbrev pub type_check : Scope → SetClause → Option Fault
type_check s a = set_fault (column_type s.columns a.column) (typed s a.value)

-- whether an assignment before it sets the column
abbrev pub is_set : List SetClause → List ℕ → Bool
is_set before name = list_any (λ b. is_text b.column name) before

-- an assignment: its column, the walk through its expression, that no earlier one sets the column, and its type
abbrev pub set_check : Scope → List SetClause → SetClause → List (Option Fault)
set_check s before a =
    column_check s.columns a.column ∷ fault_in (typed s a.value) ∷ fault_if (is_set before a.column) NameTaken ∷ type_check s a ∷ []

-- SET: each assignment, behind those before it
abbrev pub set_checks : Scope → List SetClause → List SetClause → List (Option Fault)
set_checks s before [] = []
set_checks s before (a ∷ later) = set_check s before a ++ set_checks s (before ++ a ∷ []) later

-- UPDATE over its table, as long as no row is read: WHERE, then SET
abbrev pub update_walk : Option Written → List SetClause → Scope → List (Option Fault)
update_walk condition sets s = where_check s condition ∷ set_checks s [] sets

-- ---- The values that rows get
-- a number that has no place in 64 bits with a sign
abbrev pub is_outside : Value → Bool
is_outside (Number n) = int_lt n (neg_ℤ (pos stored_size)) || not (int_lt n (pos stored_size))
is_outside v = false

-- whether the column at a place is NOT NULL
abbrev pub never_null : List ColumnDef → ℕ → Bool
never_null columns i = slice_index_or (map (λ c. c.not_null) columns) i false

-- an assignment's values in the rows: no number outside, and then no NULL where none may be
abbrev pub value_checks : List ColumnDef → List Row → Assignment → List (Option Fault)
value_checks columns rows a =
    fault_if (list_any (λ r. is_outside (eval a.value r)) rows) NumberOutside
    ∷ fault_if (never_null columns a.column && list_any (λ r. is_null (eval a.value r)) rows) NullNotAllowed ∷ []

-- the values of all assignments, in the rows that WHERE chooses
abbrev pub image_checks : List ColumnDef → List Assignment → Option Cond → List Row → List (Option Fault)
image_checks columns assignments condition rows = flat_map (value_checks columns (chosen condition rows)) assignments

-- ---- UPDATE
-- the values that the table's rows get
abbrev pub row_checks_of : Option Written → List SetClause → TableOf → List (Option Fault)
row_checks_of condition sets t =
    image_checks t.columns (bound_sets (scope_of (from_table t)) sets) (bound_where (scope_of (from_table t)) condition) t.rows

-- UPDATE: the table, the walk, and then the values that its rows get
abbrev pub update_checks : Option Written → List SetClause → Result TableOf Fault → List (Option Fault)
update_checks condition sets (Err f) = Some f ∷ []
update_checks condition sets (Ok t) = update_walk condition sets (scope_of (from_table t)) ++ row_checks_of condition sets t
