-- Operations on numbers, and on the values of vectors.
use Rattle.std.specs.Prelude.{ℕ, ℤ, pos, ◌+ℤ◌, neg_ℤ, Bool, true, false, List, length, replicate, slice_index_or}
use Rattle.std.specs.Simd.Lanes.{zip2}
use Rattle.cq_values.specs.declared.value.Value.{Value}
use Rattle.cq_values.specs.declared.value.Value.TheVariants.{Null, Number}
use Rattle.cq_model.specs.Exact.{ValueInRange}
use Rattle.cq_model.specs.Group.{InRange, addend}
use Rattle.cq_vectors_stored.specs.Columns.{number_unless}

-- the operation on two numbers, and NULL where one side is no number
abbrev pub lifted : (ℤ → ℤ → ℤ) → Value → Value → Value
lifted f (Number m) (Number n) = Number (f m n)
lifted f v w = Null

-- the first number less the second
abbrev pub minus : ℤ → ℤ → ℤ
minus m n = m +ℤ neg_ℤ n

-- a value that is no number
abbrev pub no_number : Value → Bool
no_number (Number n) = false
no_number v = true

-- each of the values fits 128 bits
abbrev pub AllInRange : List Value → Type 0
AllInRange values = (k : ℕ) → ValueInRange (slice_index_or values k Null)

-- the same by the numbers that the values add to a sum, which is 0 of no number
abbrev pub AllAddInRange : List Value → Type 0
AllAddInRange values = (k : ℕ) → InRange (addend (slice_index_or values k Null))

-- the number, or 0 where the flag is set
abbrev pub zero_if : ℤ → Bool → ℤ
zero_if n true = pos 0
zero_if n false = n

-- one number in as many places as there are values
abbrev pub repeated : ℤ → List Value → List Value
repeated n values = replicate (length values) (Number n)

-- the results at two columns of numbers, NULL where the flag is set
abbrev pub results : (ℤ → ℤ → ℤ) → List ℤ → List ℤ → List Bool → List Value
results f ms ns nulls = zip2 number_unless (zip2 f ms ns) nulls
