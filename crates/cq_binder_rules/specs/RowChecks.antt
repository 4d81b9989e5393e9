-- What is asked of the constants of an INSERT (docs/LANGUAGE.md, Statements).
use Rattle.std.specs.Prelude.{nat_lt, nat_le, ◌==◌, Bool, not, if◌then◌else◌, List, [], ◌∷◌, length, Option, Some, is_none}
use denote.Enum.Bare.{sameb}
use Rattle.cq_values.specs.contracts.ty.Ty as ty
use Rattle.cq_values.specs.declared.ty.Ty.{Ty}
use Rattle.cq_values.specs.declared.ty.Ty.TheVariants as types
use Rattle.cq_values.specs.Dates.{day_named}
use Rattle.cq_values.specs.declared.column.ColumnDef.{ColumnDef}
use Rattle.cq_sql_language.specs.declared.statement.Constant.{Constant}
use Rattle.cq_sql_language.specs.declared.statement.Constant.TheVariants as constants
use Rattle.cq_sql_language.specs.declared.statement.Literal.{Literal}
use Rattle.cq_binder_rules.specs.declared.fault.Fault.{Fault}
use Rattle.cq_binder_rules.specs.declared.fault.Fault.TheVariants.{TypeMismatch, NumberOutside, NullNotAllowed, TextTooLong, BadDate}
use Rattle.cq_binder_rules.specs.Checks.{fault_if}
use Rattle.cq_model.specs.Sizes.{stored_size, text_limit}

-- a stored number has 64 bits with a sign
abbrev pub fits_column : Literal → Bool
fits_column l = if l.is_negative then nat_le l.magnitude stored_size else nat_lt l.magnitude stored_size

-- whether a column has this type
abbrev pub is_type : Ty → Ty → Bool
is_type t u = sameb ty.the_type t u

-- a constant in its column: its type, and then what the column asks of it
abbrev pub constant_check : ColumnDef → Constant → Option Fault
constant_check d constants.Null = fault_if d.not_null NullNotAllowed
constant_check d (constants.Number l) = if is_type d.ty types.Integer then fault_if (not (fits_column l)) NumberOutside else Some TypeMismatch
constant_check d (constants.Text t) = if is_type d.ty types.Text then fault_if (nat_lt text_limit (length t)) TextTooLong else Some TypeMismatch
constant_check d (constants.Date t) = if is_type d.ty types.Date then fault_if (is_none (day_named t)) BadDate else Some TypeMismatch

-- each constant in the column of its place
abbrev pub constant_checks : List ColumnDef → List Constant → List (Option Fault)
constant_checks (d ∷ ds) (c ∷ cs) = constant_check d c ∷ constant_checks ds cs
constant_checks ds cs = []

-- a row: its width, then each constant
abbrev pub row_checks : List ColumnDef → List Constant → List (Option Fault)
row_checks columns row = fault_if (not (length row == length columns)) TypeMismatch ∷ constant_checks columns row
