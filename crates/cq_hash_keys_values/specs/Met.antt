-- What was met, each once, as it was first met. The number of each is its place among the others.
use Rattle.std.specs.Prelude.{◌≡◌, ◌<◌, ◌≤◌, ℕ, Bool, List, Option, Some, fold, length, map, slice_index_or, take}
use Rattle.std.specs.List.{AllByRecursion}
use Rattle.indexmap.specs.IndexSet.{insert_key}

-- what was met, and then what is new of more
abbrev pub with_new : {X : Type 0} → (X → X → Bool) → List X → List X → List X
with_new same met more = fold (insert_key same) met more

-- what is new of some of them was put in, from the first on
abbrev pub TakesFront : {X : Type 0} → (X → X → Bool) → List X → List X → List X → Type 0
TakesFront same old more new = (count : ℕ) × (new ≡ with_new same old (take count more))

-- the number is that of x
abbrev pub IsNumberIn : {X : Type 0} → X → List X → X → ℕ → Type 0
IsNumberIn none met x number = (number < length met) × (slice_index_or met number none ≡ x)

-- the numbers are those of these, one for each
pub record AreNumbersOf {X : Type 0} (none : X) (met xs : List X) (numbers : List ℕ) : Type 0 where
  pub named : map (λ number. slice_index_or met number none) numbers ≡ xs
  pub within : AllByRecursion (λ number. number < length met) numbers

-- from one place up to another each of xs has the number that is found of it
pub record IsRun {X : Type 0} (none : X) (find : X → Option ℕ) (xs : List X) (from upto : ℕ) (old new : List ℕ) : Type 0 where
  pub same : length new ≡ length old
  pub kept : (place : ℕ) → place < from → slice_index_or new place 0 ≡ slice_index_or old place 0
  pub found : (place : ℕ) → from ≤ place → place < upto → find (slice_index_or xs place none) ≡ Some (slice_index_or new place 0)

-- up to a place each of xs has its number
abbrev pub IsToldTo : {X : Type 0} → X → List X → List X → ℕ → List ℕ → Type 0
IsToldTo none met xs upto numbers = (place : ℕ) → place < upto → IsNumberIn none met (slice_index_or xs place none) (slice_index_or numbers place 0)
