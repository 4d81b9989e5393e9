-- Pairs of numbers, each once, and how they are found.
use Rattle.std.specs.Prelude.{◌≡◌, ℕ, List, Option, Some, None, map, position}
use Rattle.std.specs.List.{IsDistinct, zip}
use Rattle.cq_hash_keys.specs.declared.grid.Grid.{Grid}
use Rattle.cq_hash_keys.specs.Grid.{pair_in, same_pair}
use Rattle.cq_hash_keys_values.specs.Met.{AreNumbersOf, IsRun}

-- the number of a pair, None where it was never met
abbrev pub place_of_pair : List (ℕ × ℕ) → ℕ × ℕ → Option ℕ
place_of_pair met pair = position (same_pair pair) met

-- the number of two parts, None where one of them has none
abbrev pub place_of_both : List (ℕ × ℕ) → Option ℕ × Option ℕ → Option ℕ
place_of_both met (Some first, Some second) = place_of_pair met (first, second)
place_of_both met (Some first, None) = None
place_of_both met (None, second) = None

-- the number of the two parts at each place, None where one of them has none
abbrev pub places_of_pairs : List (ℕ × ℕ) → List (Option ℕ) → List (Option ℕ) → List (Option ℕ)
places_of_pairs met firsts seconds = map (place_of_both met) (zip firsts seconds)

-- the numbers are those of the pairs of these parts, one for each
abbrev pub ArePairNumbers : List (ℕ × ℕ) → List ℕ → List ℕ → List ℕ → Type 0
ArePairNumbers met firsts seconds numbers = AreNumbersOf (0, 0) met (zip firsts seconds) numbers

-- from one place up to another the pair of these parts has its number
abbrev pub IsPairRun : List (ℕ × ℕ) → List ℕ → List ℕ → ℕ → ℕ → List ℕ → List ℕ → Type 0
IsPairRun met firsts seconds from upto old new = IsRun (0, 0) (place_of_pair met) (zip firsts seconds) from upto old new

-- pairs that are there once each, and a grid that has their numbers
pub record ArePairs (ways : Grid) (met : List (ℕ × ℕ)) : Type 0 where
  pub once : IsDistinct same_pair met
  pub found : (pair : ℕ × ℕ) → pair_in ways pair ≡ place_of_pair met pair
