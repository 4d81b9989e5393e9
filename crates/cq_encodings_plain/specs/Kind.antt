-- Numbers and days, which are both kept as numbers.
use Rattle.std.specs.Prelude.{◌≡◌, List, [], ◌∷◌, map, Option, Some, None, ℤ, pos, neg_ℤ, int_le, Bool, true, false, ◌&&◌, if◌then◌else◌, FitsSigned}
use Rattle.std.specs.Int.{w64}
use Rattle.cq_values.specs.Days.{IsDay}
use Rattle.cq_values.specs.declared.value.Value.{Value}
use Rattle.cq_values.specs.declared.value.Value.TheVariants.{Null, Number, Day, Text}
use Rattle.cq_encodings_plain.specs.declared.kind.Kind.{Kind}
use Rattle.cq_encodings_plain.specs.declared.kind.Kind.TheVariants.{Numbers, Days}

-- whether a day has the number
abbrev pub is_day : ℤ → Bool
is_day n = int_le (neg_ℤ (pos 719162)) n && int_le n (pos 2932896)

-- what a number stands for, and NULL where the flag says so
abbrev pub datum : Kind → ℤ → Bool → Value
datum kind n true = Null
datum Numbers n false = Number n
datum Days n false = if is_day n then Day n else Null

-- a number of 64 bits, or that of a day
abbrev pub IsOf : Kind → ℤ → Type 0
IsOf Numbers n = FitsSigned w64 n
IsOf Days n = IsDay n

-- the number is one of the kind, and stands for the value
pub record StandsFor (kind : Kind) (number : ℤ) (value : Value) : Type 0 where
  pub of : IsOf kind number
  pub same : datum kind number false ≡ value

-- the values that numbers of a kind stand for, none of them NULL
abbrev pub number_values : Kind → List ℤ → List Value
number_values kind numbers = map (λ number. datum kind number false) numbers

-- the kind of the first value that is not NULL, if there is one and it is no text
abbrev pub first_kind : List Value → Option Kind
first_kind [] = None
first_kind (Null ∷ values) = first_kind values
first_kind (Number n ∷ values) = Some Numbers
first_kind (Day n ∷ values) = Some Days
first_kind (Text text ∷ values) = None
