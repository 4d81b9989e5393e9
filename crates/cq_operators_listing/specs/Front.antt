-- The rows in front of a listing that were put in order.
use Rattle.std.specs.Prelude.{◌≡◌, ◌≤◌, ℕ, false, Some, length, take}
use Rattle.std.specs.Ordering.{is_gt}
use Rattle.std.specs.List.{AllByRecursion}
use Rattle.cq_values.specs.Value.{Row}
use Rattle.cq_model_bags.specs.Listing.{IsInOrder, listing_cmp}
use Rattle.cq_operators_listing.specs.Stored.{StoredListing}

-- so many rows in front are in order, and LIMIT allows no more
pub record IsFront (listing : StoredListing) (count : ℕ) : Type 0 where
  pub limit : listing.limit ≡ Some count
  pub enough : count ≤ length listing.rows
  pub in_order : IsInOrder (listing_cmp listing.keys) (take count listing.rows)

-- as many rows as LIMIT allows do not stand behind this one
pub record IsWorst (listing : StoredListing) (worst : Row) : Type 0 where
  pub count : ℕ
  pub limit : listing.limit ≡ Some count
  pub enough : count ≤ length listing.rows
  pub before : AllByRecursion (λ row. is_gt (listing_cmp listing.keys row worst) ≡ false) (take count listing.rows)
