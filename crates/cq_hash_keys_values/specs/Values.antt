-- The values of a column, each once, and how they are found.
use Rattle.std.specs.Prelude.{◌≡◌, ℕ, Bool, List, [], ◌∷◌, Option, position}
use Rattle.indexmap.specs.IndexSet.{insert_key}
use Rattle.cq_values.specs.declared.value.Value.{Value}
use Rattle.cq_values.specs.declared.value.Value.TheVariants.{Null}
use Rattle.cq_values.specs.Order.{same_row}
use Rattle.cq_hash_keys_values.specs.declared.dictionary.Dictionary.{Dictionary}
use Rattle.cq_hash_keys_values.specs.Dictionary.{number_in}
use Rattle.cq_hash_keys_values.specs.Met.{AreNumbersOf, with_new}

-- whether two values are one, as rows of them alone are
abbrev pub same_value : Value → Value → Bool
same_value v w = same_row (v ∷ []) (w ∷ [])

-- the number of a value, None where it was never met
abbrev pub place_in : List Value → Value → Option ℕ
place_in met value = position (same_value value) met

-- a value was met, and was put in where it is new
abbrev pub Meets : List Value → Value → List Value → Type 0
Meets old value new = new ≡ insert_key same_value old value

-- what is new of these values was put in
abbrev pub TakesIn : List Value → List Value → List Value → Type 0
TakesIn old values new = new ≡ with_new same_value old values

-- what was met tells the number of each of these values
abbrev pub Tells : List Value → List Value → List ℕ → Type 0
Tells met values numbers = AreNumbersOf Null met values numbers

-- the dictionary has the number of each value
abbrev pub Finds : Dictionary → List Value → Type 0
Finds ways met = (value : Value) → number_in ways value ≡ place_in met value
