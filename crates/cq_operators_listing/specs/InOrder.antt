-- Rows that stand in the order of a listing.
use Rattle.std.specs.Prelude.{◌≡◌, false, List, length}
use Rattle.std.specs.List.{AllAdjacentBelow}
use Rattle.std.specs.Ordering.{is_gt}
use Rattle.cq_values.specs.Value.{Row}
use Rattle.cq_model_bags.specs.declared.sort_key.SortKey.{SortKey}
use Rattle.cq_model_bags.specs.Listing.{listing_cmp}

-- by the keys, and then by all columns, a row does not stand before the one in front of it
abbrev pub StandsBehind : List SortKey → Row → Row → Type 0
StandsBehind keys front row = is_gt (listing_cmp keys front row) ≡ false

-- neither does any of these rows
abbrev pub EachInOrder : List SortKey → List Row → Type 0
EachInOrder keys rows = AllAdjacentBelow (StandsBehind keys) rows (length rows)
