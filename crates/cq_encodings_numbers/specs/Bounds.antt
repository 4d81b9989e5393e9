-- The least and the greatest of values.
use Rattle.std.specs.Prelude.{◌<◌, ◌≡◌, ◌⊎◌, ℕ, Bool, true, false, List, Option, Some, None, IfSome, length, slice_index_or}
use Rattle.std.specs.List.{AllByRecursion, list_any}
use Rattle.std.specs.Option.{option_map}
use Rattle.std.specs.Ordering.{is_gt}
use Rattle.cq_values.specs.Lent.{owned}
use Rattle.cq_values.specs.Order.{value_cmp}
use Rattle.cq_values.specs.Value.{is_null}
use Rattle.cq_values.specs.declared.lent.Lent.{Lent}
use Rattle.cq_values.specs.declared.value.Value.{Value}
use Rattle.cq_values.specs.declared.value.Value.TheVariants.{Null}
use Rattle.cq_encodings_numbers.specs.declared.bounds.Bounds.{Bounds}

-- the least and the greatest value that is not NULL, of values that have one
abbrev pub Ends : Type 0
Ends = Option (Value × Value)

-- NULL where that is there, or a value between the ends, both included
abbrev pub IsBounded : Bool → Ends → Value → Type 0
IsBounded has_null None value = (is_null value ≡ true) × (has_null ≡ true)
IsBounded has_null (Some ends) value =
    ((is_null value ≡ true) × (has_null ≡ true)) ⊎ (is_gt (value_cmp ends.0 value) ≡ false) × (is_gt (value_cmp value ends.1) ≡ false)

-- the value stands at some place of the values
abbrev pub IsAmong : List Value → Value → Type 0
IsAmong values value = (place : ℕ) × (place < length values) × (slice_index_or values place Null ≡ value)

-- each value is bounded, ends are values, and NULL is there or not as told
pub record AreBounds (has_null : Bool) (ends : Ends) (values : List Value) : Type 0 where
  pub all : AllByRecursion (IsBounded has_null ends) values
  pub known : IfSome ends (λ e. (is_null e.0 ≡ false) × (is_null e.1 ≡ false))
  pub among : IfSome ends (λ e. IsAmong values e.0 × IsAmong values e.1)
  pub null : has_null ≡ list_any is_null values

-- the ends that lent values stand for
abbrev pub owned_ends : Option (Lent × Lent) → Ends
owned_ends ends = option_map (λ e. (owned e.0, owned e.1)) ends

abbrev pub ends_of : Bounds → Ends
ends_of bounds = owned_ends bounds.ends

-- the bounds that are lent are those of the values
abbrev pub AreBoundsOf : Bounds → List Value → Type 0
AreBoundsOf bounds values = AreBounds bounds.has_null (ends_of bounds) values
