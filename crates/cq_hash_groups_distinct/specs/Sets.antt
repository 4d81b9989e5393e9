-- The different values of each group, and the keys by which they are told apart: the number of the group, and the value.
use Rattle.std.specs.Prelude.{ℕ, Bool, pos, ◌≡◌, ◌+◌, ◌^◌, ◌<◌, ◌≤◌, not, ◌&&◌, if◌then◌else◌, List, [], ◌∷◌, filter, length, map, slice_index_or, Option, Some, None}
use Rattle.std.specs.List.{IsDistinct, range_with_len, zip}
use Rattle.indexmap.specs.IndexSet.{insert_key}
use Rattle.cq_values.specs.declared.value.Value.{Value}
use Rattle.cq_values.specs.declared.value.Value.TheVariants.{Number}
use Rattle.cq_values.specs.Order.{same_row}
use Rattle.cq_values.specs.Value.{Row, column}
use Rattle.cq_model.specs.Condition.{is_null}
use Rattle.cq_hash_keys_values.specs.Met.{with_new}
use Rattle.cq_hash_keys_values.specs.Values.{same_value}
use Rattle.cq_hash_keys.specs.Keys.{StoredKeys}

-- each value is there once, and NULL is no value
abbrev pub put_value : List Value → Value → List Value
put_value met v = if is_null v then met else insert_key same_value met v

-- the number stands for the group
abbrev pub is_number_of : ℕ → Value → Bool
is_number_of group number = same_value number (Number (pos group))

-- the key is that of a value of the group
abbrev pub is_of : ℕ → Row → Bool
is_of group key = is_number_of group (column key 0) && not (is_null (column key 1))

-- the values that the keys give a group
abbrev pub set_of : List Row → ℕ → List Value
set_of keys group = map (λ key. column key 1) (filter (is_of group) keys)

-- and each of so many groups
abbrev pub sets_in : ℕ → List Row → List (List Value)
sets_in groups keys = map (set_of keys) (range_with_len 0 groups)

-- the key of a value of a group
abbrev pub group_value : ℕ × Value → Row
group_value next = Number (pos next.0) ∷ next.1 ∷ []

-- the keys of values in the groups of their numbers
abbrev pub group_values : List ℕ → List Value → List Row
group_values numbers values = map group_value (zip numbers values)

-- the keys of two columns
abbrev pub column_pairs : List Value → List Value → List Row
column_pairs groups values = map (λ next. next.0 ∷ next.1 ∷ []) (zip groups values)

-- what is new of these keys was put in
pub record Adds (old : StoredKeys) (rows : List Row) (new : StoredKeys) : Type 0 where
  pub width : new.width ≡ old.width
  pub keys : IsDistinct same_row old.keys → new.keys ≡ with_new same_row old.keys rows

-- what is new of the keys of two columns was put in
abbrev pub AddsColumns : StoredKeys → List Value → List Value → StoredKeys → Type 0
AddsColumns old groups values new = Adds old (column_pairs groups values) new

-- what is new of values in the groups of their numbers was put in
abbrev pub AddsValues : StoredKeys → List ℕ → List Value → StoredKeys → Type 0
AddsValues old numbers values new = Adds old (group_values numbers values) new

-- each group's count is how many values the keys give it
abbrev pub AreSizes : List Row → List ℕ → Type 0
AreSizes keys counts = (group : ℕ) → group < length counts → slice_index_or counts group 0 ≡ length (set_of keys group)

-- keys of two values, once each, which give values to no other groups than these
pub record AreCounted (width : ℕ) (keys : List Row) (counts : List ℕ) : Type 0 where
  pub wide : width ≡ 2
  pub once : IsDistinct same_row keys
  pub sizes : (group : ℕ) → slice_index_or counts group 0 ≡ length (set_of keys group)

-- no group has more
abbrev pub AreAllWithin : ℕ → List ℕ → Type 0
AreAllWithin most counts = (group : ℕ) → slice_index_or counts group 0 ≤ most

-- a value is counted in the group of its number, if there is one
abbrev pub CountsValue : Value → Value → List ℕ → List ℕ → Type 0
CountsValue number value old new =
    (group : ℕ) → group < length old → slice_index_or new group 0 ≡ slice_index_or old group 0 + (if is_number_of group number && not (is_null value) then 1 else 0)

-- the group that a number stands for, if it does
abbrev pub IsGroupAt : Value → Option ℕ → Type 0
IsGroupAt number None = (group : ℕ) → group < 2 ^ 64 → number ≡ Number (pos group) → ⊥
IsGroupAt number (Some at) = number ≡ Number (pos at)
