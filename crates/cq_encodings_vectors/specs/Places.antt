-- What stands at some places.
use Rattle.std.specs.Prelude.{◌<◌, ◌≡◌, ◌+◌, ◌+ℤ◌, ℕ, ℤ, pos, Bool, false, if◌then◌else◌, List, [], map, slice_index_or}
use Rattle.std.specs.List.{AllByRecursion}
use Rattle.cq_values.specs.declared.value.Value.{Value}
use Rattle.cq_values.specs.declared.value.Value.TheVariants.{Null}
use Rattle.cq_values.specs.Value.{Row}
use Rattle.cq_vectors.specs.declared.vector.Form.{Form}
use Rattle.cq_vectors.specs.Form.{values_in}
use Rattle.cq_vectors_stored.specs.LentColumns.{days_above}

-- each place is below the end
abbrev pub AreBelow : ℕ → List ℕ → Type 0
AreBelow end places = AllByRecursion (λ place. place < end) places

-- the rows at some places
abbrev pub rows_at : List Row → List ℕ → List Row
rows_at rows places = map (λ place. slice_index_or rows place []) places

-- and the places that a list has there
abbrev pub places_at : List ℕ → List ℕ → List ℕ
places_at all places = map (λ place. slice_index_or all place 0) places

-- what a list has at some places, where past its end one item stands
abbrev pub items_at : {X : Type 0} → List X → List ℕ → X → List X
items_at xs places past = map (λ place. slice_index_or xs place past) places

-- the values at some places
abbrev pub values_at : List Value → List ℕ → List Value
values_at values places = map (λ place. slice_index_or values place Null) places

-- the flags
abbrev pub flags_at : List Bool → List ℕ → List Bool
flags_at flags places = map (λ place. slice_index_or flags place false) places

-- no flag is set
abbrev pub NoneIsSet : List Bool → Type 0
NoneIsSet flags = (place : ℕ) → slice_index_or flags place false ≡ false

-- the item, or nothing where the flag is set
abbrev pub unless_set : {X : Type 0} → X → X → Bool → X
unless_set nothing item flag = if flag then nothing else item

-- the text of a run at a place from one on, empty where NULL stands
abbrev pub text_of_place : List (List ℕ) → ℕ → List Bool → ℕ → List ℕ
text_of_place texts start nulls place = unless_set [] (slice_index_or texts (start + place) []) (slice_index_or nulls place false)

-- those of some places
abbrev pub run_at_places : List (List ℕ) → ℕ → List Bool → List ℕ → List (List ℕ)
run_at_places texts start nulls places = map (text_of_place texts start nulls) places

-- the number at the offset of a place above the base
abbrev pub number_of_place : ℤ → List ℕ → ℕ → ℤ
number_of_place base offsets place = base +ℤ pos (slice_index_or offsets place 0)

-- the numbers of some places above the base
abbrev pub raised_at : ℤ → List ℕ → List ℕ → List ℤ
raised_at base offsets places = map (number_of_place base offsets) places

-- a form holds what another form has at some places
abbrev pub AreAt : Form → List ℕ → Form → Type 0
AreAt all places found = values_in found ≡ values_at (values_in all) places

-- the values are those of others at some places
abbrev pub AreThose : List Value → List ℕ → List Value → Type 0
AreThose all places values = values ≡ values_at all places

-- the form that was found holds those
abbrev pub HoldsThose : List Value → List ℕ → Form → Type 0
HoldsThose all places found = AreThose all places (values_in found)

-- the days above a base at some places, and NULL where the flag says so
abbrev pub AreDaysAt : ℤ → List ℕ → List Bool → List ℕ → List Value → Type 0
AreDaysAt base offsets flags places days = AreThose (days_above base offsets flags) places days
