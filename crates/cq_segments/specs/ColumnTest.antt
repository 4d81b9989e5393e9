-- What a test of one column says of rows.
use Rattle.std.specs.Prelude.{◌≡◌, ℕ, true, false, not, List, Some}
use Rattle.std.specs.List.{AllByRecursion}
use Rattle.cq_values.specs.Comparison.{compared}
use Rattle.cq_values.specs.Lent.{owned}
use Rattle.cq_values.specs.Truth.{is_true, truth_of}
use Rattle.cq_values.specs.Value.{Row, column, is_null}
use Rattle.cq_values.specs.declared.comparison.Comparison.{Comparison}
use Rattle.cq_values.specs.declared.truth.Truth.{Truth}
use Rattle.cq_values.specs.declared.value.Value.{Value}
use Rattle.cq_vectors.specs.Gathered.{column_of}
use Rattle.cq_encodings_numbers.specs.Bounds.{AreBoundsOf, Ends, IsBounded}
use Rattle.cq_encodings_numbers.specs.declared.bounds.Bounds.{Bounds}
use Rattle.cq_segments.specs.declared.column_test.ColumnTest.{ColumnTest}
use Rattle.cq_segments.specs.declared.column_test.ColumnTest.TheVariants as test

-- the truth of a test in a row (ISO 9075-2, 8.2 and 8.8)
abbrev pub tested : ColumnTest → Row → Truth
tested (test.Compare at comparison constant) row = compared comparison (column row at) (owned constant)
tested (test.IsNull at) row = truth_of (is_null (column row at))
tested (test.IsNotNull at) row = truth_of (not (is_null (column row at)))

-- the place of the column that is asked
abbrev pub asked_column : ColumnTest → ℕ
asked_column (test.Compare at comparison constant) = at
asked_column (test.IsNull at) = at
asked_column (test.IsNotNull at) = at

-- no row makes the test True
abbrev pub NoneMatches : ColumnTest → List Row → Type 0
NoneMatches test rows = AllByRecursion (λ row. is_true (tested test row) ≡ false) rows

-- no value within the bounds makes the comparison with the constant True
abbrev pub NonePasses : Comparison → Value → Ends → Type 0
NonePasses comparison constant ends = (value : Value) → IsBounded true ends value → is_true (compared comparison value constant) ≡ false

-- the same of a least and a greatest value
abbrev pub NoneBetween : Value → Value → Comparison → Value → Type 0
NoneBetween least greatest comparison constant = NonePasses comparison constant (Some (least, greatest))

-- no row whose column has these bounds makes the test True
abbrev pub RulesOut : Bounds → ColumnTest → Type 0
RulesOut bounds test = (rows : List Row) → AreBoundsOf bounds (column_of rows (asked_column test)) → NoneMatches test rows
