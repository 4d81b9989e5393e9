-- What groups from one on show, column by column.
use Rattle.std.specs.Prelude.{◌≡◌, ◌<◌, ◌≤◌, ◌+◌, ◌++◌, ℕ, List, length, map}
use Rattle.std.specs.List.{AllByRecursion, range_with_len}
use Rattle.cq_values.specs.declared.value.Value.{Value}
use Rattle.cq_values.specs.Value.{Row, column as column_at}
use Rattle.cq_model.specs.declared.fault.ShowFault.{ShowFault}
use Rattle.cq_model.specs.declared.fault.ShowFault.TheVariants.{SumOutOfRange}
use Rattle.cq_hash_keys.specs.Keys.{HasValues, key_at}
use Rattle.cq_hash_groups_slots.specs.declared.slots.Slots.{Slots}
use Rattle.cq_hash_groups_slots.specs.Slots.{CanShow, shown_at}
use Rattle.cq_hash_groups.specs.Groups.{shown_row}
use Rattle.cq_writestore_rows.specs.Filling.{Filled}

-- the values of so many groups from one on
abbrev pub of_groups : {X : Type 0} → (ℕ → X) → ℕ → ℕ → List X
of_groups f start len = map f (range_with_len start len)

-- what they show of an aggregate
abbrev pub shown_from : Slots → ℕ → ℕ → List Value
shown_from slots start len = of_groups (λ group. shown_at group slots) start len

-- and in a column of their keys
abbrev pub keys_from : List Row → ℕ → ℕ → ℕ → List Value
keys_from keys column start len = of_groups (λ group. column_at (key_at keys group) column) start len

-- the rows of these groups
abbrev pub rows_from : List Row → List Slots → ℕ → ℕ → List Row
rows_from keys slots start len = of_groups (λ group. shown_row (key_at keys group) group slots) start len

-- it is so for each of them
abbrev pub ForGroups : (ℕ → Type 0) → ℕ → ℕ → Type 0
ForGroups P start len = (group : ℕ) → start ≤ group → group < start + len → P group

-- each total of an aggregate can be shown
abbrev pub CanShowFrom : ℕ → ℕ → Slots → Type 0
CanShowFrom start len slots = ForGroups (λ group. CanShow group slots) start len

-- and those of each aggregate
abbrev pub CanAllShow : ℕ → ℕ → List Slots → Type 0
CanAllShow start len slots = ForGroups (λ group. AllByRecursion (CanShow group) slots) start len

-- a fault for a total is told only where one of them cannot be shown
abbrev pub IsShownFault : ℕ → ℕ → List Slots → ShowFault → Type 0
IsShownFault start len slots e = e ≡ SumOutOfRange → CanAllShow start len slots → ⊥

-- their rows stand behind those that were there, if their keys have so many values
pub record AddsShownRows (width : ℕ) (keys : List Row) (slots : List Slots) (start len : ℕ) (old new : Filled) : Type 0 where
  pub rows : ForGroups (λ group. HasValues width (key_at keys group)) start len → new.rows ≡ old.rows ++ rows_from keys slots start len
  pub count : length new.rows ≡ length old.rows + len
  pub begun : new.begun ≡ old.begun
  pub wide : new.width ≡ old.width
