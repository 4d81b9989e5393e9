-- Changed rows that wait for the groups at their places.
use Rattle.std.specs.Prelude.{◌≡◌, ◌≤◌, ℕ, ℤ, List, [], ◌∷◌, ◌++◌, map, length, slice_range, Option, All}
use Rattle.std.specs.Global.{Vec}
use Rattle.cq_values.specs.Value.{Row}
use Rattle.cq_model.specs.declared.query.Aggregate.{Aggregate}
use Rattle.cq_deltas.specs.declared.change.Addend.{Addend}
use Rattle.cq_deltas.specs.declared.change.PlacedRow.{PlacedRow}
use Rattle.cq_deltas.specs.declared.change.SpannedRow.{SpannedRow}
use Rattle.cq_deltas.specs.Additions.{addends_of}

-- what a changed row adds, to the group at a place
pub record Placed : Type 0 where
  pub place : ℕ
  pub weight : ℤ
  pub addends : List (Option Addend)

-- what this row adds to the group at a place
abbrev pub placed_at : ℕ → List Aggregate → Row → ℤ → Placed
placed_at place aggregates r weight = record { place = place; weight = weight; addends = addends_of r aggregates }

-- behind the changed rows stands this one, for the group at the place
abbrev pub PutsRow : ℕ → List Aggregate → Row → ℤ → List Placed → List Placed → Type 0
PutsRow place aggregates r weight old new = new ≡ old ++ placed_at place aggregates r weight ∷ []

-- behind the addends stand those of this row
abbrev pub PutsAddends : Row → List Aggregate → Vec (Option Addend) → Vec (Option Addend) → Type 0
PutsAddends r aggregates old new = new.items ≡ old.items ++ addends_of r aggregates

-- a row as it is read from a change
abbrev pub row_read : PlacedRow → Placed
row_read r = record { place = r.place; weight = r.weight; addends = r.addends.now }

-- a row whose addends stand among those of its change
abbrev pub row_in : List (Option Addend) → SpannedRow → Placed
row_in addends w = record { place = w.place; weight = w.weight; addends = slice_range addends w.start w.end }

-- the rows of a change
abbrev pub rows_in : List (Option Addend) → List SpannedRow → List Placed
rows_in addends rows = map (row_in addends) rows

-- a row's addends stand among those of its change
pub record IsWithin (addends : List (Option Addend)) (w : SpannedRow) : Type 0 where
  pub in_order : w.start ≤ w.end
  pub within : w.end ≤ length addends

-- so it is with each row
abbrev pub AreWithin : List (Option Addend) → List SpannedRow → Type 0
AreWithin addends rows = All (IsWithin addends) rows
