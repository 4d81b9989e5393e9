-- What holds of bags and of the operators on them. Each statement is the contract of a function in laws.rt.
use Rattle.std.specs.Prelude.{◌≡◌, ℕ, ℤ, pos, ◌*ℤ◌, int_lt, Bool, if◌then◌else◌, List, length, filter, ◌++◌, Option}
use Rattle.std.specs.List.{sum_by}
use Rattle.cq_values.specs.Value.{Row}
use Rattle.cq_values.specs.Order.{same_row}
use Rattle.cq_model_bags.specs.Bag.{Weighted, weight_of, SameBag, negative, filtered, projected, joined, distinct, total}
use Rattle.cq_model_bags.specs.Join.{join_change, HasWidth}
use Rattle.cq_model_bags.specs.Size.{size, pairs_met, IsClean}
use Rattle.cq_model_bags.specs.Listing.{IsListing}
use Rattle.cq_model_bags.specs.declared.sort_key.SortKey.{SortKey}

-- a bag has one listing in each order, also cut by LIMIT
abbrev pub OneListing : Type 0
OneListing =
    (keys : List SortKey) (limit : Option ℕ) (bag : Weighted) (rows others : List Row)
    → IsListing keys limit bag rows → IsListing keys limit bag others → rows ≡ others

-- a sum over weighted rows depends on the bag alone, whatever is summed
abbrev pub SumsDependOnBag : Type 0
SumsDependOnBag = (f : Row → ℤ) (xs ys : Weighted) → SameBag xs ys → total f xs ≡ total f ys

-- an operator that takes sums to sums, and changes taken back to changes taken back
pub record IsLinear (f : Weighted → Weighted) : Type 0 where
  pub same_bag : (xs ys : Weighted) → SameBag xs ys → SameBag (f xs) (f ys)
  pub sums : (xs ys : Weighted) → f (xs ++ ys) ≡ f xs ++ f ys
  pub negatives : (xs : Weighted) → f (negative xs) ≡ negative (f xs)

-- each filter and each projection is linear
abbrev pub LinearOperators : Type 0
LinearOperators = ((keep : Row → Bool) → IsLinear (filtered keep)) × ((f : Row → Row) → IsLinear (projected f))

-- the join of two changed sides is the old join with its change
abbrev pub JoinLaw : Type 0
JoinLaw = (on : Row → Row → Bool) (a da b db : Weighted) → SameBag (joined on (a ++ da) (b ++ db)) (joined on a b ++ join_change on a da b db)

-- a pair that goes together weighs its parts' product, and another nothing (ISO 9075-2, 7.10)
abbrev pub JoinedWeight : Type 0
JoinedWeight =
    (on : Row → Row → Bool) (xs ys : Weighted) (r s : Row) → HasWidth (length r) xs
    → weight_of (joined on xs ys) (r ++ s) ≡ (if on r s then weight_of xs r *ℤ weight_of ys s else pos 0)

-- an image weighs as much as the rows that give it, together
abbrev pub ProjectedWeight : Type 0
ProjectedWeight = (f : Row → Row) (xs : Weighted) (q : Row) → weight_of (projected f xs) q ≡ total (λ r. if same_row (f r) q then pos 1 else pos 0) xs

-- distinct makes each positive weight one, and each other weight zero
abbrev pub DistinctWeight : Type 0
DistinctWeight = (xs : Weighted) (r : Row) → weight_of (distinct xs) r ≡ (if int_lt (pos 0) (weight_of xs r) then pos 1 else pos 0)

-- distinct rows depend on the bag alone
abbrev pub DistinctRespects : Type 0
DistinctRespects = (xs ys : Weighted) → SameBag xs ys → SameBag (distinct xs) (distinct ys)

-- equal bags have as many entries and pairs, and loops over merged lists count them
pub record SizesDependOnBag : Type 0 where
  pub same_size : (xs ys : Weighted) → SameBag xs ys → size xs ≡ size ys
  pub same_pairs : (on : Row → Row → Bool) (xs us ys vs : Weighted) → SameBag xs us → SameBag ys vs → pairs_met on xs ys ≡ pairs_met on us vs
  pub merged_size : (xs : Weighted) → IsClean xs → size xs ≡ length xs
  pub merged_pairs : (on : Row → Row → Bool) (xs ys : Weighted) → IsClean xs → IsClean ys
      → pairs_met on xs ys ≡ sum_by (λ x. length (filter (λ y. on x.0 y.0) ys)) xs
