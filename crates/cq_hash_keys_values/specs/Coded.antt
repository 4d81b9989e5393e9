-- Numbers of entries, noted while the texts of a vector are read by their codes.
use Rattle.std.specs.List.{All}
use Rattle.std.specs.Prelude.{◌≡◌, ℕ, zero, suc, ◌+◌, ◌<◌, ◌≤◌, ◌-◌, Bool, if◌then◌else◌, List, [], Option, None, length, slice_index_or}
use Rattle.std.specs.Simd.Lanes.{zip2}
use Rattle.cq_values.specs.declared.value.Value.{Value}
use Rattle.cq_values.specs.declared.value.Value.TheVariants.{Null, Text}
use Rattle.cq_vectors_stored.specs.LentColumns.{AreCodes, entries_at}
use Rattle.cq_hash_keys_values.specs.Codes.{code_or}
use Rattle.cq_hash_keys_values.specs.Met.{IsNumberIn, IsRun}
use Rattle.cq_hash_keys_values.specs.Values.{Tells, place_in}

-- the value of a slot: NULL of the first, and each entry of the slot behind its own place
abbrev pub slot_value : List (List ℕ) → ℕ → Value
slot_value entries zero = Null
slot_value entries (suc code) = Text (slice_index_or entries code [])

-- the slot of a code, and the first one where the flag of NULL is set
abbrev pub slot_for : ℕ → Bool → ℕ
slot_for code flag = if flag then 0 else code + 1

-- each code names an entry, and has a flag
pub record AreTexts (entries : List (List ℕ)) (codes : List ℕ) (flags : List Bool) : Type 0 where
  pub known : AreCodes entries codes
  pub same : length flags ≡ length codes
  pub few : length codes ≤ 1024

-- each code has a flag, and its slot is one of so many
pub record HaveSlots (count : ℕ) (codes : List ℕ) (flags : List Bool) : Type 0 where
  pub known : All (λ code. code + 1 < count) codes
  pub same : length flags ≡ length codes
  pub few : length codes ≤ 1024

-- the number that a slot has noted, if it has one
abbrev pub noted_in : List ℕ → ℕ → Option ℕ
noted_in slots slot = code_or (slice_index_or slots slot 0) None

-- from one place up to another the number that the place's slot has noted is told
abbrev pub IsNotedRun : List ℕ → List ℕ → List Bool → ℕ → ℕ → List ℕ → List ℕ → Type 0
IsNotedRun slots codes flags from upto old new = IsRun 0 (noted_in slots) (zip2 slot_for codes flags) from upto old new

-- a slot has one more than the number of its value, or 0, which says nothing
abbrev pub AreNoted : List (List ℕ) → List Value → List ℕ → Type 0
AreNoted entries met slots = (slot : ℕ) → (slice_index_or slots slot 0 ≡ 0 → ⊥) → IsNumberIn Null met (slot_value entries slot) (slice_index_or slots slot 0 - 1)

-- each slot up to that of the last entry has what is found of its value
abbrev pub AreLookedUp : List (List ℕ) → List Value → List (Option ℕ) → Type 0
AreLookedUp entries met found = (slot : ℕ) → slot ≤ length entries → slice_index_or found slot None ≡ place_in met (slot_value entries slot)

-- each number is that of the text that a code names
abbrev pub TellsTexts : List (List ℕ) → List ℕ → List Bool → List Value → List ℕ → Type 0
TellsTexts entries codes flags met numbers = Tells met (entries_at entries codes flags) numbers
