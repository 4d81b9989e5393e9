-- NULL, and rows of values.
use Rattle.std.specs.Prelude.{ℕ, Bool, true, false, List, slice_index_or}
use Rattle.cq_values.specs.declared.value.Value.{Value}
use Rattle.cq_values.specs.declared.value.Value.TheVariants.{Null}

-- whether a value is NULL, as IS NULL asks
abbrev pub is_null : Value → Bool
is_null Null = true
is_null v = false

-- a finite list of values
abbrev pub Row : Type 0
Row = List Value

-- the value of a column, and NULL past the end
abbrev pub column : Row → ℕ → Value
column r at = slice_index_or r at Null
