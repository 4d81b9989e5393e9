-- How the bounds of a column are found.
use Rattle.std.specs.Prelude.{◌<◌, ◌≡◌, ℕ, List, Option, Some, None, IfSome, map, slice_index_or}
use Rattle.std.specs.Option.{option_map}
use Rattle.cq_model.specs.Group.{higher, lower}
use Rattle.cq_values.specs.Lent.{owned}
use Rattle.cq_values.specs.declared.lent.Lent.{Lent}
use Rattle.cq_values.specs.declared.value.Value.{Value}
use Rattle.cq_values.specs.declared.value.Value.TheVariants.{Null}
use Rattle.cq_encodings_numbers.specs.Bounds.{Ends}

-- the ends with a value more
abbrev pub wider_ends : Ends → Value → Ends
wider_ends None value = Some (value, value)
wider_ends (Some ends) value = Some (lower ends.0 value, higher ends.1 value)

-- the value at a place of values that are lent
abbrev pub value_at : List Lent → ℕ → Value
value_at lent place = slice_index_or (map owned lent) place Null

-- the values at the places of the ends
abbrev pub ends_at : Option (ℕ × ℕ) → List Value → Ends
ends_at places values = option_map (λ p. (slice_index_or values p.0 Null, slice_index_or values p.1 Null)) places

-- and of values that are lent
abbrev pub lent_ends : Option (ℕ × ℕ) → List Lent → Ends
lent_ends places lent = ends_at places (map owned lent)

-- the ends at the places, with the value of a place more
abbrev pub AreWidened : List Lent → Option (ℕ × ℕ) → ℕ → (ℕ × ℕ) → Type 0
AreWidened lent places place wider = lent_ends (Some wider) lent ≡ wider_ends (lent_ends places lent) (value_at lent place)

-- both places are below the end
abbrev pub AreWithin : ℕ → Option (ℕ × ℕ) → Type 0
AreWithin end places = IfSome places (λ p. (p.0 < end) × (p.1 < end))
