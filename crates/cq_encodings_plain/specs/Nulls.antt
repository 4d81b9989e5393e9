-- Flags in pieces of 1,024.
use Rattle.std.specs.Prelude.{ℕ, ◌*◌, ◌≡◌, Bool, true, false, List, [], drop, slice_index_or, take}
use Rattle.std.specs.List.{flat_map}

-- the flags of the pieces, one piece behind the other
abbrev pub joined : List (List Bool) → List Bool
joined pieces = flat_map (λ piece. piece) pieces

-- piece k has the flags from 1,024 * k on, at most 1,024
abbrev pub ArePieces : List (List Bool) → List Bool → Type 0
ArePieces pieces flags = (k : ℕ) → slice_index_or pieces k [] ≡ take 1024 (drop (1024 * k) flags)

-- where the flag is set there is nothing
abbrev pub NothingWhere : {A : Type 0} → A → List Bool → List A → Type 0
NothingWhere nothing flags parts = (k : ℕ) → slice_index_or flags k false ≡ true → slice_index_or parts k nothing ≡ nothing
