-- Numbers of a few bits each, side by side in words of 64 bits. Side by side they are one number, whose bit b is bit b mod
-- 64 of word b div 64, and bit b mod w of the value at place b div w.
use Rattle.std.specs.Prelude.{ℕ, ◌+◌, ◌*◌, ◌/◌, ◌%◌, ◌^◌, ◌<◌, ◌≡◌, ◌≤◌, List, [], ◌∷◌, length, map}
use Rattle.std.specs.List.{All, range_with_len}

-- the number that has these digits of so many bits each, the lowest first
unfoldable pub number_of : ℕ → List ℕ → ℕ
number_of width [] = 0
number_of width (digit ∷ digits) = digit + 2 ^ width * number_of width digits

-- the words write the same number as the values, and there are no more words than it takes
pub record IsPacked (width : ℕ) (values words : List ℕ) : Type 0 where
  pub same : number_of 64 words ≡ number_of width values
  pub least : length words ≡ (width * length values + 63) / 64

-- the value at a place: the bits of the whole number from width times the place on
unfoldable pub value_at : ℕ → List ℕ → ℕ → ℕ
value_at width words place = number_of 64 words / 2 ^ (width * place) % 2 ^ width

-- so many values from a place on
abbrev pub values_from : ℕ → List ℕ → ℕ → ℕ → List ℕ
values_from width words start len = map (λ i. value_at width words (start + i)) (range_with_len 0 len)

-- the values that are read from the words are these
abbrev pub AreRead : ℕ → List ℕ → List ℕ → Type 0
AreRead width words values = values_from width words 0 (length values) ≡ values

-- words that have room for so many values
pub record HoldsValues (width : ℕ) (words : List ℕ) (len : ℕ) : Type 0 where
  pub narrow : width ≤ 64
  pub there : width * len ≤ 64 * length words

-- so many bits are enough for each of the numbers
abbrev pub Fit : ℕ → List ℕ → Type 0
Fit width numbers = All (λ number. number < 2 ^ width) numbers

-- so many bits are enough for each of the numbers, and fewer are not
pub record IsWidthOf (width : ℕ) (numbers : List ℕ) : Type 0 where
  pub fits : Fit width numbers
  pub least : (other : ℕ) → Fit other numbers → width ≤ other

-- words that hold so many values at their least width
pub record AreBits (width : ℕ) (words : List ℕ) (len : ℕ) : Type 0 where
  pub holds : HoldsValues width words len
  pub width_of : IsWidthOf width (values_from width words 0 len)
