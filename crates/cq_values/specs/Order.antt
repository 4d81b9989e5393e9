-- The total order of values and of rows, by which results are sorted (ISO 9075-2, 8.2; docs/LANGUAGE.md, Results).
use Rattle.std.specs.Prelude.{ℕ, ℤ, pos, List, [], Bool}
use Rattle.std.specs.declared.cmp.Ordering.{Ordering}
use Rattle.std.specs.Ordering.{on, then_cmp, nat_cmp, int_cmp, is_eq}
use Rattle.std.specs.Cmp.Lexicographic.{slice_cmp}
use Rattle.cq_values.specs.declared.value.Value.{Value}
use Rattle.cq_values.specs.declared.value.Value.TheVariants.{Null, Number, Text, Day}
use Rattle.cq_values.specs.Value.{Row}

-- numbers, then days, then texts, and NULL last
abbrev pub kind : Value → ℕ
kind (Number n) = 0
kind (Day d) = 1
kind (Text t) = 2
kind Null = 3

-- the number that orders a value within its kind
abbrev pub number : Value → ℤ
number (Number n) = n
number (Day d) = d
number (Text t) = pos 0
number Null = pos 0

-- the bytes that order a value within its kind
abbrev pub bytes : Value → List ℕ
bytes (Number n) = []
bytes (Day d) = []
bytes (Text t) = t
bytes Null = []

-- by kind, then by number, then by bytes
abbrev pub value_cmp : Value → Value → Ordering
value_cmp = then_cmp (on kind nat_cmp) (then_cmp (on number int_cmp) (on bytes (slice_cmp nat_cmp)))

-- column by column, and a row before what extends it
abbrev pub row_cmp : Row → Row → Ordering
row_cmp = slice_cmp value_cmp

-- whether two rows are one
unfoldable pub same_row : Row → Row → Bool
same_row r s = is_eq (row_cmp r s)
