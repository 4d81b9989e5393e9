-- Rows whose entries stand in one list.
use Rattle.std.specs.Prelude.{◌≡◌, ◌≤◌, ℕ, List, [], ◌∷◌, ◌++◌, Some, length, slice_get, slice_range, ⊤}
use Rattle.cq_sql_language.specs.declared.statement.Constant.{Constant}

-- where a row ends: where the first of those behind it begins, or else at the end of all
abbrev pub next_start : List ℕ → ℕ → ℕ
next_start [] end = end
next_start (start ∷ starts) end = start

-- the rows that begin at these places, each of which goes on to the next one
unfoldable pub rows_at : {A : Type 0} → List ℕ → List A → List (List A)
rows_at [] xs = []
rows_at (start ∷ starts) xs = slice_range xs start (next_start starts (length xs)) ∷ rows_at starts xs

-- no row begins before the one before it, or behind the end of all
unfoldable pub AreRising : List ℕ → ℕ → Type 0
AreRising [] end = ⊤
AreRising (start ∷ starts) end = (start ≤ next_start starts end) × AreRising starts end

-- rows whose last one has one entry more
unfoldable pub onto_last : {A : Type 0} → A → List (List A) → List (List A)
onto_last x [] = []
onto_last x (row ∷ []) = (row ++ x ∷ []) ∷ []
onto_last x (row ∷ next ∷ rows) = row ∷ onto_last x (next ∷ rows)

-- the row at the place has the constants from the start up to the end, of so many
pub record IsPlaced (starts : List ℕ) (len place start end : ℕ) : Type 0 where
  pub in_order : start ≤ end
  pub within : end ≤ len
  pub row : (xs : List Constant) → length xs ≡ len → slice_get (rows_at starts xs) place ≡ Some (slice_range xs start end)
