-- Values that stand as whole numbers of 64 bits.
use Rattle.std.specs.Prelude.{◌≡◌, ℕ, ℤ, pos, ◌+ℤ◌, List, Option, length, map, take}
use Rattle.cq_values.specs.declared.value.Value.{Value}
use Rattle.cq_values.specs.declared.value.Value.TheVariants.{Null, Number, Day}
use Rattle.cq_hash_keys_values.specs.declared.dictionary.Dictionary.{Dictionary}
use Rattle.cq_hash_keys_values.specs.declared.kind.Kind.{Kind}
use Rattle.cq_hash_keys_values.specs.declared.kind.Kind.TheVariants as kind
use Rattle.cq_hash_keys_values.specs.declared.window.Window.{Window}
use Rattle.cq_hash_keys_values.specs.Codes.{code_in}
use Rattle.cq_hash_keys_values.specs.Met.{IsRun}
use Rattle.cq_hash_keys_values.specs.Window.{place_above}

-- the value that a whole number of this kind stands for
abbrev pub whole_value : Kind → ℤ → Value
whole_value kind.Number = Number
whole_value kind.Day = Day

-- the values that whole numbers of this kind stand for
abbrev pub whole_values : Kind → List ℤ → List Value
whole_values kind numbers = map (whole_value kind) numbers

-- from one place up to another the value of each whole number has its number
abbrev pub IsWholeRun : (Value → Option ℕ) → Kind → List ℤ → ℕ → ℕ → List ℕ → List ℕ → Type 0
IsWholeRun find kind values from upto old new = IsRun Null find (whole_values kind values) from upto old new

-- the first whole numbers are those at these offsets above the base
abbrev pub PutsAbove : ℤ → List ℕ → List ℤ → Type 0
PutsAbove base offsets numbers = take (length offsets) numbers ≡ map (λ o. base +ℤ pos o) offsets

-- the window that has the numbers of values of this kind
abbrev pub window_of : Dictionary → Kind → Window
window_of d kind.Number = d.numbers
window_of d kind.Day = d.days

-- the code of a whole number in its window
abbrev pub window_code : Dictionary → Kind → ℤ → ℕ
window_code d kind n = code_in (window_of d kind).codes.items (place_above (window_of d kind).least n)

-- the first of the whole numbers stand for these values
abbrev pub StandsAs : Kind → List ℤ → List Value → Type 0
StandsAs kind numbers values = values ≡ whole_values kind (take (length values) numbers)
