-- Columns of one kind of values, as what each value holds and a flag where it is NULL.
use Rattle.std.specs.Prelude.{ℕ, ℤ, pos, ◌≡◌, ◌≤◌, Bool, true, false, List, [], length, map, slice_index_or, FitsSigned}
use Rattle.std.specs.Int.{Width}
use Rattle.std.specs.Borrow.{Bor}
use Rattle.std.specs.Simd.Lanes.{zip2}
use Rattle.cq_values.specs.declared.value.Value.{Value}
use Rattle.cq_values.specs.declared.value.Value.TheVariants.{Null, Number, Day, Text}
use Rattle.cq_values.specs.Days.{IsDay}
use Rattle.cq_values.specs.Order.{number, bytes}
use Rattle.cq_model.specs.Condition.{is_null}

-- the number, or NULL where the flag says so
abbrev pub number_unless : ℤ → Bool → Value
number_unless n true = Null
number_unless n false = Number n

-- the day, or NULL where the flag says so
abbrev pub day_unless : ℤ → Bool → Value
day_unless d true = Null
day_unless d false = Day d

-- the text, or NULL where the flag says so
abbrev pub text_unless : List ℕ → Bool → Value
text_unless t true = Null
text_unless t false = Text t

-- where the flag is set the number is 0
abbrev pub ZeroWhere : List Bool → List ℤ → Type 0
ZeroWhere nulls numbers = (k : ℕ) → slice_index_or nulls k false ≡ true → slice_index_or numbers k (pos 0) ≡ pos 0

-- where the flag is set the text is empty
abbrev pub EmptyWhere : List Bool → List (List ℕ) → Type 0
EmptyWhere nulls texts = (k : ℕ) → slice_index_or nulls k false ≡ true → slice_index_or texts k [] ≡ []

-- each number can be kept in so many bits
abbrev pub AllFit : Width → List ℤ → Type 0
AllFit width numbers = (k : ℕ) → FitsSigned width (slice_index_or numbers k (pos 0))

-- each number is that of a day
abbrev pub AreDays : List ℤ → Type 0
AreDays numbers = (k : ℕ) → IsDay (slice_index_or numbers k (pos 0))

-- the bytes of texts that are lent
abbrev pub texts_of : List (Bor (List ℕ)) → List (List ℕ)
texts_of texts = map (λ text. text.now) texts

-- the numbers, 0 where NULL, and the flags are those of these values, at most 1,024
pub record KeepsNumbers (ns : List ℤ) (flags : List Bool) (values : List Value) : Type 0 where
  pub numbers : ns ≡ map number values
  pub nulls : flags ≡ map is_null values
  pub few : length values ≤ 1024

-- numbers of so many bits, with their flags
abbrev pub AreNumbers : Width → List ℤ → List Bool → Type 0
AreNumbers width ns flags = KeepsNumbers ns flags (zip2 number_unless ns flags) × AllFit width ns

-- numbers of days, with their flags
abbrev pub AreDates : List ℤ → List Bool → Type 0
AreDates ns flags = KeepsNumbers ns flags (zip2 day_unless ns flags) × AreDays ns

-- the texts, empty where NULL, and the flags are those of these values, at most 1,024
pub record KeepsTexts (ts : List (List ℕ)) (flags : List Bool) (values : List Value) : Type 0 where
  pub texts : ts ≡ map bytes values
  pub nulls : flags ≡ map is_null values
  pub few : length values ≤ 1024

-- texts with their flags
abbrev pub AreTexts : List (List ℕ) → List Bool → Type 0
AreTexts ts flags = KeepsTexts ts flags (zip2 text_unless ts flags)
