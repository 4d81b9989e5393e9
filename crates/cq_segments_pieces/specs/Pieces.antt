-- Lists that stand one behind the other.
use Rattle.std.specs.Prelude.{◌<◌, ◌≤◌, ◌+◌, ◌≡◌, ℕ, List, [], length, slice_index_or}
use Rattle.std.specs.List.{AllByRecursion, flat_map}

-- what the lists have, one list behind the other
abbrev pub joined : {X : Type 0} → List (List X) → List X
joined lists = flat_map (λ list. list) lists

-- 1,024 items to each list, and no more to the last
pub record AreFull {X : Type 0} (lists : List (List X)) : Type 0 where
  pub few : AllByRecursion (λ list. length list ≤ 1024) lists
  pub full : (k : ℕ) → k + 1 < length lists → length (slice_index_or lists k []) ≡ 1024
