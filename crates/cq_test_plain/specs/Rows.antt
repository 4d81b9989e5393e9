-- What lists of rows are of a bag.
use Rattle.std.specs.Prelude.{◌≡◌, Vec}
use Rattle.std.specs.Global.{Global}
use Rattle.cq_values.specs.Value.{Row}
use Rattle.cq_model_bags.specs.Bag.{SameBag, Weighted, once_each}
use Rattle.cq_model_bags.specs.Listing.{IsListing}
use Rattle.cq_model.specs.declared.query.Order.{Order}

-- the rows make up these, each of them once
abbrev pub MakeUp : Weighted → Vec Row Global → Type 0
MakeUp xs rows = once_each rows.items ≡ xs

-- the rows have the bag of these
abbrev pub HaveBag : Weighted → Vec Row Global → Type 0
HaveBag xs rows = SameBag (once_each rows.items) xs

-- the rows are the one list of these in an order, cut by its LIMIT
abbrev pub AreListed : Order → Weighted → Vec Row Global → Type 0
AreListed order xs rows = IsListing order.keys order.limit xs rows.items
