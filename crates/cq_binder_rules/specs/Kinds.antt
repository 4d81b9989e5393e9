-- What the nodes of an expression ask of their operands and give: a value of a type or a condition, or a fault
-- (docs/LANGUAGE.md, Expressions).
use Rattle.std.specs.Prelude.{ℕ, ◌+◌, ◌*◌, nat_lt, nat_le, Bool, true, false, ◌&&◌, if◌then◌else◌, List, length, Result, Ok, Err}
use denote.Enum.Bare.{sameb}
use Rattle.cq_values.specs.contracts.ty.Ty as ty
use Rattle.cq_values.specs.declared.ty.Ty.{Ty}
use Rattle.cq_values.specs.declared.ty.Ty.TheVariants as types
use Rattle.cq_values.specs.declared.day_part.DayPart.{DayPart}
use Rattle.cq_model.specs.Width.{number_limit, part_limit}
use Rattle.cq_binder_rules.specs.declared.fault.Fault.{Fault}
use Rattle.cq_binder_rules.specs.declared.fault.Fault.TheVariants.{TypeMismatch, TooWide, TextTooLong}
use Rattle.cq_binder_rules.specs.declared.typing.Kind.{Kind}
use Rattle.cq_binder_rules.specs.declared.typing.Kind.TheVariants as kinds
use Rattle.cq_binder_rules.specs.declared.typing.Typing.{Typing}
use Rattle.cq_model.specs.Sizes.{count_size, text_limit}
use Rattle.cq_sql_language.specs.declared.written.AggregateFunction.{AggregateFunction}
use Rattle.cq_sql_language.specs.declared.written.AggregateFunction.TheVariants as functions

infixl 10 ◌and_then◌
-- goes on with what stands, and stays with the first fault
abbrev pub ◌and_then◌ : {A B : Type 0} → Result A Fault → (A → Result B Fault) → Result B Fault
(Ok x) and_then f = f x
(Err e) and_then f = Err e

-- a fault where the condition is not met
abbrev pub unless : {A : Type 0} → Bool → Fault → A → Result A Fault
unless met f x = if met then Ok x else Err f

-- a value of a type
abbrev pub value_of : Ty → ℕ → Typing
value_of t size = record { kind = kinds.Value t; size = size }

-- a condition
abbrev pub a_condition : Typing
a_condition = record { kind = kinds.Condition; size = 0 }

-- whether something is a value of this type; NULL is one of any type
abbrev pub is_of : Ty → Kind → Bool
is_of t kinds.Condition = false
is_of t (kinds.Value u) = sameb ty.the_type u t
is_of t kinds.Null = true

abbrev pub is_value : Kind → Bool
is_value kinds.Condition = false
is_value k = true

abbrev pub is_condition : Kind → Bool
is_condition kinds.Condition = true
is_condition k = false

-- whether something has a type of its own, which NULL alone has not
abbrev pub has_type : Kind → Bool
has_type (kinds.Value t) = true
has_type k = false

-- two values that can be compared: one type, or a NULL
abbrev pub agree : Kind → Kind → Bool
agree kinds.Condition l = false
agree (kinds.Value t) l = is_of t l
agree kinds.Null l = is_value l

-- a number that is written or worked out is below 2^127
abbrev pub number_of : ℕ → Result Typing Fault
number_of size = unless (nat_lt size number_limit) TooWide (value_of types.Integer size)

-- minus of a number
abbrev pub negative : Typing → Result Typing Fault
negative x = if is_of types.Integer x.kind then number_of x.size else Err TypeMismatch

-- arithmetic of two numbers, of which the size is given
abbrev pub arithmetic : Typing → Typing → ℕ → Result Typing Fault
arithmetic x y size = if is_of types.Integer x.kind && is_of types.Integer y.kind then number_of size else Err TypeMismatch

-- a sum or a difference
abbrev pub sum_of : Typing → Typing → Result Typing Fault
sum_of x y = arithmetic x y (x.size + y.size)

abbrev pub product_of : Typing → Typing → Result Typing Fault
product_of x y = arithmetic x y (x.size * y.size)

-- a part of a day
abbrev pub part_of : DayPart → Typing → Result Typing Fault
part_of part x = unless (is_of types.Date x.kind) TypeMismatch (value_of types.Integer (part_limit part))

-- two values that agree are compared
abbrev pub compared_with : Typing → Typing → Result Typing Fault
compared_with x y = unless (agree x.kind y.kind) TypeMismatch a_condition

-- IS NULL asks for a value
abbrev pub tested : Typing → Result Typing Fault
tested x = unless (is_value x.kind) TypeMismatch a_condition

-- a value between two others
abbrev pub between_them : Typing → Typing → Typing → Result Typing Fault
between_them x least greatest = unless (agree x.kind least.kind && agree x.kind greatest.kind) TypeMismatch a_condition

-- a pattern is a text of at most 4,096 bytes
abbrev pub text_of : List ℕ → Result Typing Fault
text_of t = unless (nat_le (length t) text_limit) TextTooLong (value_of types.Text 0)

-- LIKE asks for a text
abbrev pub like_of : Typing → Typing → Result Typing Fault
like_of x pattern = unless (is_of types.Text x.kind) TypeMismatch a_condition

-- NOT asks for a condition
abbrev pub negation_of : Typing → Result Typing Fault
negation_of x = unless (is_condition x.kind) TypeMismatch a_condition

-- AND and OR ask for two conditions
abbrev pub connected : Typing → Typing → Result Typing Fault
connected x y = unless (is_condition x.kind && is_condition y.kind) TypeMismatch a_condition

-- a count
abbrev pub counted : Typing
counted = value_of types.Integer count_size

-- COUNT, also with DISTINCT, asks for a value, and SUM for a number; MIN and MAX give a value of the rows
abbrev pub aggregated : AggregateFunction → Typing → Result Typing Fault
aggregated functions.Count x = unless (is_value x.kind) TypeMismatch counted
aggregated functions.CountDistinct x = unless (is_value x.kind) TypeMismatch counted
aggregated functions.Sum x = unless (is_of types.Integer x.kind) TypeMismatch (value_of types.Integer number_limit)
aggregated functions.Min x = unless (is_value x.kind) TypeMismatch x
aggregated functions.Max x = unless (is_value x.kind) TypeMismatch x

-- a column that is set asks for a value of its type
abbrev pub of_type : Ty → Typing → Result Typing Fault
of_type t x = unless (is_of t x.kind) TypeMismatch x

-- a column of a view asks for a value with a type
abbrev pub kept_value : Typing → Result Typing Fault
kept_value x = unless (has_type x.kind) TypeMismatch x

-- the type of a value that has one
abbrev pub kind_type : Kind → Ty
kind_type (kinds.Value t) = t
kind_type k = types.Integer
