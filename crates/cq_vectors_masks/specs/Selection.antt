-- Places that still count.
use Rattle.std.specs.Prelude.{ℕ, ◌<◌, Bool, List, slice_index, slice_index_or}
use Rattle.std.specs.List.{filter}
use Rattle.std.specs.List.Sorted.{IsStrictlyIncreasing}
use Rattle.cq_values.specs.declared.truth.Truth.{Truth}
use Rattle.cq_values.specs.declared.truth.Truth.TheVariants.{Unknown}
use Rattle.cq_values.specs.Truth.{is_true}

-- the places rise, and each is below 1,024
abbrev pub AreRising : List ℕ → Type 0
AreRising places = IsStrictlyIncreasing places × ((k : ℕ) → slice_index places k < 1024)

-- whether the condition is True in the place
abbrev pub is_true_at : List Truth → ℕ → Bool
is_true_at truths place = is_true (slice_index_or truths place Unknown)

-- those of the places at which the condition is True
abbrev pub where_true : List Truth → List ℕ → List ℕ
where_true truths places = filter (is_true_at truths) places
