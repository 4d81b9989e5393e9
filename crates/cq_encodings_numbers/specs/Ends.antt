-- The least and the greatest of parts of 1,024 offsets.
use Rattle.std.specs.Prelude.{◌≡◌, ◌<◌, ◌≤◌, ◌+◌, ◌*◌, ℕ, ℤ, pos, ◌+ℤ◌, min, max, Bool, true, false, List, Option, Some, None, IfSome, length, slice_index_or}
use Rattle.std.specs.Option.{option_map}
use Rattle.cq_encodings_numbers.specs.Bounds.{Ends}
use Rattle.cq_encodings_plain.specs.declared.kind.Kind.{Kind}
use Rattle.cq_encodings_plain.specs.Kind.{datum}
use Rattle.cq_encodings_numbers.specs.declared.ends.PartEnds.{PartEnds}

-- the place is one of those from a first up to another one, and there is an offset and this flag
pub record IsPlace (start end : ℕ) (offsets : List ℕ) (nulls : List Bool) (flag : Bool) (place : ℕ) : Type 0 where
  pub from : start ≤ place
  pub below : place < end
  pub there : place < length offsets
  pub is : slice_index_or nulls place false ≡ flag

-- the offset stands there at some place that is not NULL
abbrev pub IsThere : ℕ → ℕ → List ℕ → List Bool → ℕ → Type 0
IsThere start end offsets nulls offset = (place : ℕ) × IsPlace start end offsets nulls false place × (slice_index_or offsets place 0 ≡ offset)

-- there are ends, and the offset lies between them, both included
abbrev pub IsBetween : Option (ℕ × ℕ) → ℕ → Type 0
IsBetween None offset = ⊥
IsBetween (Some ends) offset = (ends.0 ≤ offset) × (offset ≤ ends.1)

-- the ends of the offsets from a place up to another one that are not NULL's, and whether NULL is there
pub record AreEnds (start end : ℕ) (offsets : List ℕ) (nulls : List Bool) (known : PartEnds) : Type 0 where
  pub between : (place : ℕ) → IsPlace start end offsets nulls false place → IsBetween known.ends (slice_index_or offsets place 0)
  pub there : IfSome known.ends (λ e. IsThere start end offsets nulls e.0 × IsThere start end offsets nulls e.1)
  pub null : (place : ℕ) → IsPlace start end offsets nulls true place → known.has_null ≡ true
  pub some_null : known.has_null ≡ true → (place : ℕ) × IsPlace start end offsets nulls true place

-- nothing is there
abbrev pub no_ends : PartEnds
no_ends = record { has_null = false; ends = None }

-- item k has the ends of the offsets from 1,024 * k on, at most 1,024
abbrev pub HaveEnds : List PartEnds → List ℕ → List Bool → Type 0
HaveEnds ends offsets nulls = (k : ℕ) → AreEnds (1024 * k) (1024 * k + 1024) offsets nulls (slice_index_or ends k no_ends)

-- none of the flags from a place up to another one is set
abbrev pub AreClear : ℕ → ℕ → List Bool → Type 0
AreClear start end nulls = (place : ℕ) → start ≤ place → place < end → slice_index_or nulls place false ≡ false

-- the ends with one offset more
abbrev pub with_offset : Option (ℕ × ℕ) → ℕ → ℕ × ℕ
with_offset None offset = (offset, offset)
with_offset (Some ends) offset = (min ends.0 offset, max ends.1 offset)

-- the values so far above the least
abbrev pub ends_above : Kind → ℤ → Option (ℕ × ℕ) → Ends
ends_above kind least ends = option_map (λ e. (datum kind (least +ℤ pos e.0) false, datum kind (least +ℤ pos e.1) false)) ends
