-- The walk through an expression: each operand from left to right, and then the node that needs them. The first fault
-- refuses, and what has none gives a value of a type or a condition (docs/LANGUAGE.md, Expressions).
use Rattle.std.specs.Prelude.{ℕ, ◌==◌, ◌+◌, Bool, true, ◌&&◌, not, if◌then◌else◌, List, map, drop, Option, Some, None, Result, Ok, Err, is_none, is_some, position, slice_index_or}
use Rattle.std.specs.List.{list_any}
use Rattle.cq_values.specs.declared.ty.Ty.{Ty}
use Rattle.cq_values.specs.declared.ty.Ty.TheVariants as types
use Rattle.cq_values.specs.Dates.{day_named}
use Rattle.cq_values.specs.Texts.{is_text}
use Rattle.cq_sql_language.specs.declared.written.ColumnName.{ColumnName}
use Rattle.cq_sql_language.specs.Written.{Written, Choices, Number, Text, Date, Null, Column, Extract, CountAll, Aggregate, Parens, Negative, Times, Plus, Minus, Compare, IsNull, Between, In, Like, Not, And, Or, NoChoice, Choice}
use Rattle.cq_binder_rules.specs.declared.fault.Fault.{Fault}
use Rattle.cq_binder_rules.specs.declared.fault.Fault.TheVariants.{UnknownTable, UnknownColumn, AmbiguousColumn, TypeMismatch, AggregateMisplaced, BadDate}
use Rattle.cq_binder_rules.specs.declared.typing.Kind.TheVariants as kinds
use Rattle.cq_binder_rules.specs.declared.typing.Typing.{Typing}
use Rattle.cq_binder_rules.specs.Kinds.{◌and_then◌, unless, aggregated, counted, value_of, a_condition, agree, number_of, negative, sum_of, product_of, part_of, compared_with, tested, between_them, text_of, like_of, negation_of, connected, of_type, kept_value, kind_type}

-- a column that expressions read: the name that its source is known by, its own name, its type, and the size that its
-- numbers never exceed
pub record ScopeColumn : Type 0 where
  pub source : List ℕ
  pub name : List ℕ
  pub ty : Ty
  pub size : ℕ

-- what expressions read: the columns of all sources, each of which has one at least, in the order of the joined rows. The
-- items of groups read the columns of GROUP BY alone, which stand at these places
pub record Scope : Type 0 where
  pub columns : List ScopeColumn
  pub grouped : Option (List ℕ)

-- whether a source is known by a name
abbrev pub is_known : List ScopeColumn → List ℕ → Bool
is_known columns name = list_any (λ column. is_text column.source name) columns

-- the source that a column's name tells, if it tells one, is there
abbrev pub knows : List ScopeColumn → Option (List ℕ) → Bool
knows columns None = true
knows columns (Some source) = is_known columns source

-- whether a column is of the source that a name tells, if it tells one
abbrev pub is_of_source : Option (List ℕ) → ScopeColumn → Bool
is_of_source None column = true
is_of_source (Some source) column = is_text column.source source

-- whether a name means this column
abbrev pub is_meant : ColumnName → ScopeColumn → Bool
is_meant c column = is_text column.name c.name && is_of_source c.source column

-- a name means one column: it is unknown where it means none, and ambiguous where it means another behind the first
abbrev pub one_meant : List ScopeColumn → ColumnName → Option ℕ → Result ℕ Fault
one_meant columns c None = Err UnknownColumn
one_meant columns c (Some place) = unless (not (list_any (is_meant c) (drop (place + 1) columns))) AmbiguousColumn place

-- where the column stands that a name means: the source is looked up, and then the column (ISO 9075-2, 6.7)
abbrev pub resolved : List ScopeColumn → ColumnName → Result ℕ Fault
resolved columns c = if knows columns c.source then one_meant columns c (position (is_meant c) columns) else Err UnknownTable

-- the type of the column at a place, which is there
abbrev pub type_at : List ScopeColumn → ℕ → Ty
type_at columns place = slice_index_or (map (λ c. c.ty) columns) place types.Integer

-- the size that the numbers of the column at a place never exceed
abbrev pub size_at : List ScopeColumn → ℕ → ℕ
size_at columns place = slice_index_or (map (λ c. c.size) columns) place 0

-- whether the column at a place may be read: each of a row may, and of a group's row those of GROUP BY
abbrev pub may_read : Option (List ℕ) → ℕ → Bool
may_read None place = true
may_read (Some group) place = list_any (λ g. g == place) group

-- a column that is there gives a value, where it may be read
abbrev pub column_typing : Scope → ℕ → Result Typing Fault
column_typing s place = unless (may_read s.grouped place) AggregateMisplaced (value_of (type_at s.columns place) (size_at s.columns place))

-- what the argument of an aggregate sees: the rows
abbrev pub rows_in : Scope → Scope
rows_in s = record { columns = s.columns; grouped = None }

-- an aggregate may stand where groups are read: not in WHERE, in a write, or in another aggregate
abbrev pub of_group : Scope → Typing → Result Typing Fault
of_group s x = unless (is_some s.grouped) AggregateMisplaced x

abbrev mutual
  -- what an expression gives, or its first fault
  pub typed : Scope → Written → Result Typing Fault
  typed s (Number n) = number_of n
  typed s (Text t) = text_of t
  typed s (Date t) = unless (not (is_none (day_named t))) BadDate (value_of types.Date 0)
  typed s Null = Ok (record { kind = kinds.Null; size = 0 })
  typed s (Column c) = resolved s.columns c and_then column_typing s
  typed s (Extract part a) = typed s a and_then part_of part
  typed s CountAll = of_group s counted
  typed s (Aggregate function a) = typed (rows_in s) a and_then aggregated function and_then of_group s
  typed s (Parens a) = typed s a
  typed s (Negative a) = typed s a and_then negative
  typed s (Times a b) = typed s a and_then λ x. typed s b and_then product_of x
  typed s (Plus a b) = typed s a and_then λ x. typed s b and_then sum_of x
  typed s (Minus a b) = typed s a and_then λ x. typed s b and_then sum_of x
  typed s (Compare c a b) = typed s a and_then λ x. typed s b and_then compared_with x
  typed s (IsNull negated a) = typed s a and_then tested
  typed s (Between negated a least greatest) = typed s a and_then λ x. typed s least and_then λ l. typed s greatest and_then between_them x l
  typed s (In negated a bs) = typed s a and_then λ x. listed s x true bs
  typed s (Like negated a pattern) = typed s a and_then λ x. text_of pattern and_then like_of x
  typed s (Not a) = typed s a and_then negation_of
  typed s (And a b) = typed s a and_then λ x. typed s b and_then connected x
  typed s (Or a b) = typed s a and_then λ x. typed s b and_then connected x

  -- the list behind IN: each entry is walked through, and then all have to agree with the value
  pub listed : Scope → Typing → Bool → Choices → Result Typing Fault
  listed s x all_agree NoChoice = unless all_agree TypeMismatch a_condition
  listed s x all_agree (Choice b bs) = typed s b and_then λ y. listed s x (all_agree && agree x.kind y.kind) bs

-- the fault of an expression, if it has one
abbrev pub fault_in : {A : Type 0} → Result A Fault → Option Fault
fault_in (Ok x) = None
fault_in (Err f) = Some f

-- a condition that is asked for as a whole, as behind WHERE
abbrev pub condition_fault : Result Typing Fault → Option Fault
condition_fault t = fault_in (t and_then negation_of)

-- a value that is asked for as a whole, as an item
abbrev pub value_fault : Result Typing Fault → Option Fault
value_fault t = fault_in (t and_then tested)

-- a value of a type that is asked for as a whole, as a column is set to it
abbrev pub set_fault : Ty → Result Typing Fault → Option Fault
set_fault ty t = fault_in (t and_then of_type ty)

-- a value with a type that is asked for as a whole, as an item of a view
abbrev pub kept_fault : Result Typing Fault → Option Fault
kept_fault t = fault_in (t and_then kept_value)

-- the type of what has no fault
abbrev pub type_of : Result Typing Fault → Ty
type_of (Ok x) = kind_type x.kind
type_of (Err f) = types.Integer
