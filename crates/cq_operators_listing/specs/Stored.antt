-- A list that is being made, and the rows that it can still show.
use Rattle.std.specs.Prelude.{◌↔◌, ◌++◌, ℕ, List, Option, Result, IfOk}
use Rattle.std.specs.declared.alloc.AllocError.{AllocError}
use Rattle.cq_values.specs.Value.{Row}
use Rattle.cq_model_bags.specs.declared.sort_key.SortKey.{SortKey}
use Rattle.cq_model_bags.specs.Bag.{once_each}
use Rattle.cq_model_bags.specs.Listing.{IsListing}
use Rattle.cq_model.specs.declared.query.Order.{Order}

-- ORDER BY and LIMIT, and the rows that are kept for them
pub record StoredListing : Type 0 where
  pub keys : List SortKey
  pub limit : Option ℕ
  pub rows : List Row

-- an order, with the rows that are kept for it
abbrev pub kept_for : Order → List Row → StoredListing
kept_for order rows = record { keys = order.keys; limit = order.limit; rows = rows }

-- what is a listing of all these rows is one of the kept rows, and the other way round
abbrev pub CanList : StoredListing → List Row → Type 0
CanList listing all =
    (shown : List Row)
    → IsListing listing.keys listing.limit (once_each all) shown
    ↔ IsListing listing.keys listing.limit (once_each listing.rows) shown

-- the same order, with these rows kept too
abbrev pub with_rows : StoredListing → List Row → StoredListing
with_rows listing kept = record listing { rows = listing.rows ++ kept }

-- of more rows it suffices to keep these
abbrev pub Suffice : StoredListing → List Row → List Row → Type 0
Suffice listing kept more = (all : List Row) → CanList listing all → CanList (with_rows listing kept) (all ++ more)

-- the new listing lists what the old one did, and more rows
abbrev pub TakesIn : StoredListing → StoredListing → List Row → Type 0
TakesIn old new more = (all : List Row) → CanList old all → CanList new (all ++ more)

-- the rows are the listing of all of these
abbrev pub AreListed : StoredListing → List Row → List Row → Type 0
AreListed listing all rows = IsListing listing.keys listing.limit (once_each all) rows

-- they are the listing of whatever the list can be of
abbrev pub ListsAll : StoredListing → Result (List Row) AllocError → Type 0
ListsAll listing result = (all : List Row) → CanList listing all → IfOk result (AreListed listing all)
