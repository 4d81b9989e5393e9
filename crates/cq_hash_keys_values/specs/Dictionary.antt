-- The numbers of values, by the kind of the value.
use Rattle.std.specs.Prelude.{◌≡◌, ℕ, ◌^◌, ℤ, pos, neg_ℤ, int_lt, Bool, not, ◌&&◌, Option, Some, if◌then◌else◌}
use Rattle.std.specs.Ordering.{int_eq}
use Rattle.indexmap.specs.IndexMap.{get}
use Rattle.cq_values.specs.declared.value.Value.{Value}
use Rattle.cq_values.specs.declared.value.Value.TheVariants.{Null, Number, Text, Day}
use Rattle.cq_hash_keys_values.specs.declared.dictionary.Dictionary.{Dictionary}
use Rattle.cq_hash_keys_values.specs.Texts.{number_of}
use Rattle.cq_hash_keys_values.specs.Window.{number_at}

-- whether 64 bits hold the number
abbrev pub fits_64_bits : ℤ → Bool
fits_64_bits n = not (int_lt n (neg_ℤ (pos (2 ^ 63)))) && int_lt n (pos (2 ^ 63))

-- the number of a value
abbrev pub number_in : Dictionary → Value → Option ℕ
number_in d (Number n) = if fits_64_bits n then number_at d.numbers n else get int_eq d.wide n
number_in d (Day n) = number_at d.days n
number_in d (Text t) = number_of d.texts t
number_in d Null = d.null

-- new has this number for a value, and that of old for each other one
pub record PutsAt (old : Dictionary) (value : Value) (number : ℕ) (new : Dictionary) : Type 0 where
  pub there : number_in new value ≡ Some number
  pub others : (other : Value) → (other ≡ value → ⊥) → number_in new other ≡ number_in old other

-- the same number for each value
abbrev pub Agree : Dictionary → Dictionary → Type 0
Agree old new = (value : Value) → number_in new value ≡ number_in old value
