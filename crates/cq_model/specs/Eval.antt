-- What an expression gives in a row.
use Rattle.std.specs.Prelude.{ℕ, ℤ, pos, ◌+ℤ◌, ◌*ℤ◌, neg_ℤ}
use Rattle.cq_values.specs.declared.value.Value.{Value}
use Rattle.cq_values.specs.declared.value.Value.TheVariants.{Null, Number, Day}
use Rattle.cq_values.specs.Days.{year_of, month_of, day_of_month}
use Rattle.cq_values.specs.Value.{Row, column}
use Rattle.cq_values.specs.declared.day_part.DayPart.{DayPart}
use Rattle.cq_values.specs.declared.day_part.DayPart.TheVariants as parts
use Rattle.cq_model.specs.Expr.{Expr, Column, Literal, Negate, Plus, Times, Extract}

-- minus is exact, and of NULL it is NULL
abbrev pub negated : Value → Value
negated (Number n) = Number (neg_ℤ n)
negated v = Null

-- a sum is exact, and with NULL it is NULL
abbrev pub plus : Value → Value → Value
plus (Number m) (Number n) = Number (m +ℤ n)
plus v w = Null

-- a product is exact, and with NULL it is NULL
abbrev pub times : Value → Value → Value
times (Number m) (Number n) = Number (m *ℤ n)
times v w = Null

-- the year, the month or the day of the month
abbrev pub part_of : DayPart → ℤ → ℕ
part_of parts.Year d = year_of d
part_of parts.Month d = month_of d
part_of parts.Day d = day_of_month d

-- EXTRACT gives a part of a day, and NULL of NULL
abbrev pub extracted : DayPart → Value → Value
extracted part (Day d) = Number (pos (part_of part d))
extracted part v = Null

-- the value of an expression in a row
abbrev pub eval : Expr → Row → Value
eval (Column i) r = column r i
eval (Literal v) r = v
eval (Negate e) r = negated (eval e r)
eval (Plus a b) r = plus (eval a r) (eval b r)
eval (Times a b) r = times (eval a r) (eval b r)
eval (Extract part e) r = extracted part (eval e r)
