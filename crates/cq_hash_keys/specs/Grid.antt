-- The numbers of pairs of numbers, those of small ones in a grid and the others in a map.
use Rattle.std.specs.Prelude.{◌≡◌, ℕ, ◌+◌, ◌*◌, ◌^◌, nat_eq, nat_lt, Bool, List, ◌&&◌, Option, Some, None, if◌then◌else◌}
use Rattle.std.specs.List.{zip}
use Rattle.indexmap.specs.IndexMap.{get}
use Rattle.cq_hash_keys.specs.declared.grid.Grid.{Grid}
use Rattle.cq_hash_keys_values.specs.Codes.{code_in, code_or}
use Rattle.cq_hash_keys_values.specs.Met.{IsRun}

-- whether two pairs of numbers are one
abbrev pub same_pair : ℕ × ℕ → ℕ × ℕ → Bool
same_pair p q = nat_eq p.0 q.0 && nat_eq p.1 q.1

-- the cell of a pair: a line for each first number, and in it the second
abbrev pub cell_of : ℕ → ℕ × ℕ → Option ℕ
cell_of stride pair = if nat_lt pair.0 (2 ^ 22) && nat_lt pair.1 stride then Some (pair.0 * stride + pair.1) else None

-- the number of a pair
abbrev pub pair_in : Grid → ℕ × ℕ → Option ℕ
pair_in g pair = code_or (code_in g.codes.items (cell_of g.stride pair)) (get same_pair g.others pair)

-- from one place up to another the grid has the number of the pair of these parts
abbrev pub IsGridRun : Grid → List ℕ → List ℕ → ℕ → ℕ → List ℕ → List ℕ → Type 0
IsGridRun g firsts seconds from upto old new = IsRun (0, 0) (pair_in g) (zip firsts seconds) from upto old new

-- new has this number for a pair, and that of old for each other one
pub record PutsPair (old : Grid) (pair : ℕ × ℕ) (number : ℕ) (new : Grid) : Type 0 where
  pub there : pair_in new pair ≡ Some number
  pub others : (p : ℕ × ℕ) → (p ≡ pair → ⊥) → pair_in new p ≡ pair_in old p

-- the same number for each pair
abbrev pub AgreeOn : Grid → Grid → Type 0
AgreeOn old new = (p : ℕ × ℕ) → pair_in new p ≡ pair_in old p
