-- Rows in the order of some columns.
use Rattle.std.specs.Prelude.{◌≡◌, ℕ, List, [], ◌∷◌}
use Rattle.std.specs.declared.cmp.Ordering.{Ordering}
use Rattle.std.specs.declared.cmp.Ordering.TheVariants.{Equal}
use Rattle.std.specs.Ordering.{on, then_cmp}
use Rattle.std.specs.List.Sorted.{IsPermutation, IsSorted, IsStable}
use Rattle.cq_values.specs.Order.{value_cmp}
use Rattle.cq_values.specs.Value.{Row, column}
use Rattle.cq_segments_pieces.specs.Marked.{MarkedRow, live, unmarked}

-- by the first of these columns, then by the next
abbrev pub columns_cmp : List ℕ → Row → Row → Ordering
columns_cmp [] = λ r s. Equal
columns_cmp (at ∷ sort) = then_cmp (on (λ r. column r at) value_cmp) (columns_cmp sort)

-- rows that are equal in the columns stay as given
abbrev pub KeepsTies : List ℕ → List Row → List Row → Type 0
KeepsTies sort rows sorted = IsStable (columns_cmp sort) rows sorted

-- these rows without marks, in the order of the columns, and ties as given
pub record IsBuilt (rows : List Row) (sort : List ℕ) (built : List MarkedRow) : Type 0 where
  pub none_marked : built ≡ unmarked (live built)
  pub same : IsPermutation rows (live built)
  pub sorted : IsSorted (columns_cmp sort) (live built)
  pub stable : IsStable (columns_cmp sort) rows (live built)
