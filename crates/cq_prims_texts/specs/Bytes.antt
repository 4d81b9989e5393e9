-- The bytes of texts that are lent.
use Rattle.std.specs.Prelude.{ℕ, Bool, List, map}
use Rattle.cq_values.specs.Order.{bytes}
use Rattle.cq_vectors_stored.specs.LentColumns.{entries_at, texts_from}

-- the bytes of the texts of a run from one on, none where NULL stands
abbrev pub run_bytes : List (List ℕ) → ℕ → List Bool → List (List ℕ)
run_bytes texts start flags = map bytes (texts_from texts start flags)

-- the bytes of the entries that codes name, none where NULL stands
abbrev pub entry_bytes : List (List ℕ) → List ℕ → List Bool → List (List ℕ)
entry_bytes entries codes flags = map bytes (entries_at entries codes flags)
