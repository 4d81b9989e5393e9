-- Numbers of 64 bits as the steps to each from the one before it.
use Rattle.std.specs.Prelude.{ℕ, ◌+◌, ◌*◌, ◌/◌, ◌%◌, ◌^◌, ◌<◌, ◌≡◌, List, drop, fold, length, map, slice_index, take}
use Rattle.std.specs.List.{range_with_len}

-- the number that is a step behind another
abbrev pub next_to : ℕ → ℕ → ℕ → ℕ
next_to least number step = (number + least + step) % 2 ^ 64

-- the number that some steps lead to
abbrev pub walked : ℕ → ℕ → List ℕ → ℕ
walked least number steps = fold (next_to least) number steps

-- the number at a place: that of the last mark before it, and the steps from there on
unfoldable pub number_at : List ℕ → ℕ → List ℕ → ℕ → ℕ
number_at marks least steps place = walked least (slice_index marks (place / 1024)) (take (place % 1024) (drop (1024 * (place / 1024) + 1) steps))

-- and those of all places
abbrev pub all_numbers : List ℕ → ℕ → List ℕ → List ℕ
all_numbers marks least steps = map (number_at marks least steps) (range_with_len 0 (length steps))

-- the marks are every 1,024th number
abbrev pub AreMarks : List ℕ → List ℕ → Type 0
AreMarks marks numbers = (k : ℕ) → 1024 * k < length numbers → slice_index marks k ≡ slice_index numbers (1024 * k)

-- each step leads from one number to the next
pub record AreSteps (least : ℕ) (steps numbers : List ℕ) : Type 0 where
  pub long : length steps ≡ length numbers
  pub lead : (place : ℕ) → place + 1 < length numbers → next_to least (slice_index numbers place) (slice_index steps (place + 1)) ≡ slice_index numbers (place + 1)
