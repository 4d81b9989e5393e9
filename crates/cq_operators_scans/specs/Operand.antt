-- Values that are lent, or were worked out.
use Rattle.std.specs.Prelude.{◌≡◌, List, if◌then◌else◌, map}
use Rattle.std.specs.Simd.Lanes.{zip2}
use Rattle.cq_values.specs.declared.value.Value.{Value}
use Rattle.cq_values.specs.Value.{Row}
use Rattle.cq_values.specs.declared.day_part.DayPart.{DayPart}
use Rattle.cq_model.specs.Eval.{extracted, negated, plus, times}
use Rattle.cq_vectors.specs.Gathered.{column_of}
use Rattle.cq_operators_scans.specs.declared.operand.Operand.{Operand}
use Rattle.cq_operators_scans.specs.declared.operand.Operand.TheVariants as operand
use Rattle.cq_operators_scans.specs.declared.worked.Signed.{Signed}
use Rattle.cq_operators_scans.specs.declared.worked.Worked.{Worked}
use Rattle.cq_operators_scans.specs.declared.worked.Worked.TheVariants as worked

-- the values of an operand, lent or its own
abbrev pub values_in : Operand → List Value
values_in (operand.Lent vector) = vector.now
values_in (operand.Own vector) = vector

-- the values of a column of rows, or those that were worked out
abbrev pub values_worked : List Row → Worked → List Value
values_worked rows (worked.Column place) = column_of rows place
values_worked rows (worked.Values vector) = vector

-- it was worked out to these values
abbrev pub WorksOut : List Row → List Value → Worked → Type 0
WorksOut rows values made = values_worked rows made ≡ values

-- those of a term of a sum: a negative one has the numbers with the other sign
abbrev pub values_signed : List Row → Signed → List Value
values_signed rows term = if term.is_negative then map negated (values_worked rows term.worked) else values_worked rows term.worked

-- the sums of two such
abbrev pub sums_worked : List Row → Worked → Worked → List Value
sums_worked rows a b = zip2 plus (values_worked rows a) (values_worked rows b)

-- the numbers of one less those of the other
abbrev pub differences_worked : List Row → Worked → Worked → List Value
differences_worked rows a b = zip2 plus (values_worked rows a) (map negated (values_worked rows b))

-- the sums with a term
abbrev pub sums_signed : List Row → Worked → Signed → List Value
sums_signed rows a term = zip2 plus (values_worked rows a) (values_signed rows term)

-- and their products
abbrev pub products_worked : List Row → Worked → Worked → List Value
products_worked rows a b = zip2 times (values_worked rows a) (values_worked rows b)

-- and what EXTRACT gives of one
abbrev pub parts_worked : List Row → DayPart → Worked → List Value
parts_worked rows part days = map (extracted part) (values_worked rows days)
