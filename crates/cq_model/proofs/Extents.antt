-- A value is no larger than its expression can be.
use Rattle.std.proofs.Common.{ℕ, ◌≤◌, ℤ, arith}
use Rattle.std.proofs.lemmas.Nat.{mul-le}
use Rattle.cq_values.specs.declared.value.Value.{Value}
use Rattle.cq_values.specs.declared.value.Value.TheVariants.{Null, Number, Day, Text}
use Rattle.cq_values.proofs.Parts.{days, months, years}
use Rattle.cq_values.specs.Value.{Row, column}
use Rattle.cq_values.specs.declared.day_part.DayPart.{DayPart}
use Rattle.cq_values.specs.declared.day_part.DayPart.TheVariants as parts
use Rattle.cq_model.proofs.Sizes.{size-negated, size-plus, size-times}
use Rattle.cq_model.specs.Eval.{eval, extracted, part_of}
use Rattle.cq_model.specs.Expr.{Expr, Column, Literal, Negate, Plus, Times, Extract}
use Rattle.cq_model.specs.Width.{part_limit, value_size, width}

-- a part of a day is no larger than the greatest
part-within : (part : DayPart) (d : ℤ) → part_of part d ≤ part_limit part
part-within parts.Year d = years d
part-within parts.Month d = months d
part-within parts.Day d = days d

size-extracted : (part : DayPart) (v : Value) → value_size (extracted part v) ≤ part_limit part
size-extracted part Null = omega arith
size-extracted part (Number n) = omega arith
size-extracted part (Day d) = part-within part d
size-extracted part (Text t) = omega arith

-- where the columns of a row keep their sizes, a value is no larger than its expression can be
module _ (row : Row) (sizes : ℕ → ℕ) (sized : (i : ℕ) → value_size (column row i) ≤ sizes i) where
  pub value-within : (e : Expr) → value_size (eval e row) ≤ (width e sizes).size
  value-within (Column i) = sized i
  value-within (Literal v) = omega arith
  value-within (Negate e) = omega (arith, size-negated (eval e row), value-within e)
  value-within (Plus a b) = omega (arith, size-plus (eval a row) (eval b row), value-within a, value-within b)
  value-within (Times a b) =
      let product = mul-le (value_size (eval a row)) (value_size (eval b row)) (width a sizes).size (width b sizes).size (value-within a) (value-within b) in
      omega (arith, size-times (eval a row) (eval b row), product)
  value-within (Extract part e) = size-extracted part (eval e row)
