-- Rows whose values stand in one list.
use Rattle.std.specs.Prelude.{◌≡◌, ◌≤◌, ℕ, List, [], ◌∷◌, Some, length, slice_get, slice_range, ⊤}
use Rattle.cq_values.specs.declared.value.Value.{Value}
use Rattle.cq_values.specs.Value.{Row}

-- rows that are ended, and one that is begun
pub record Flat : Type 0 where
  pub rows : List Row
  pub begun : Row

-- the rows that end at these places, the first of which begins at the start
unfoldable pub rows_from : ℕ → List ℕ → List Value → List Row
rows_from start [] values = []
rows_from start (end ∷ ends) values = slice_range values start end ∷ rows_from end ends values

-- where the last of the rows ends
unfoldable pub last_end : ℕ → List ℕ → ℕ
last_end start [] = start
last_end start (end ∷ ends) = last_end end ends

-- no end stands before the one before it
unfoldable pub AreRisingFrom : ℕ → List ℕ → Type 0
AreRisingFrom start [] = ⊤
AreRisingFrom start (end ∷ ends) = (start ≤ end) × AreRisingFrom end ends

-- no row ends before the one before it, nor the last behind so many values
abbrev pub EndWithin : List ℕ → ℕ → Type 0
EndWithin ends len = AreRisingFrom 0 ends × (last_end 0 ends ≤ len)

-- the row at the place has the values from the start up to the end
pub record IsPlaced (ends : List ℕ) (place start end : ℕ) : Type 0 where
  pub in_order : start ≤ end
  pub within : end ≤ last_end 0 ends
  pub row : (values : List Value) → slice_get (rows_from 0 ends values) place ≡ Some (slice_range values start end)

-- the rows of these values, and behind them the one that is begun
abbrev pub flat_of : List Value → List ℕ → Flat
flat_of values ends = record { rows = rows_from 0 ends values; begun = slice_range values (last_end 0 ends) (length values) }
