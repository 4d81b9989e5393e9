-- Places of rows with the ranks of what their listing compares first.
use Rattle.std.specs.Prelude.{◌≡◌, ℕ, List, length, take, Option}
use Rattle.std.specs.declared.cmp.Ordering.{Ordering}
use Rattle.std.specs.Ordering.{nat_cmp, ordering_then}
use Rattle.cq_values.specs.Value.{Row}
use Rattle.cq_values_rows.specs.Columns.{row_or_none}
use Rattle.cq_model_bags.specs.declared.sort_key.SortKey.{SortKey}
use Rattle.cq_model_bags.specs.Listing.{first_rows, listing_cmp}
use Rattle.cq_operators_listing.specs.Ranks.{row_ranks}
use Rattle.cq_operators_listing.specs.declared.ranked.Ranked.{Ranked}

-- the place of a row with the row's ranks
abbrev pub ranked : List SortKey → List Row → ℕ → Ranked
ranked keys rows place = record { ranks = row_ranks keys (row_or_none rows place); place = place }

-- by the ranks, and where they are equal by the rows
abbrev pub cmp_ranked : List SortKey → List Row → Ranked → Ranked → Ordering
cmp_ranked keys rows p q = ordering_then (nat_cmp p.ranks q.ranks) (listing_cmp keys (row_or_none rows p.place) (row_or_none rows q.place))

-- of so many rows LIMIT leaves this many
abbrev pub TakesFirst : Option ℕ → ℕ → ℕ → Type 0
TakesFirst limit len count = (rows : List Row) → length rows ≡ len → first_rows limit rows ≡ take count rows
