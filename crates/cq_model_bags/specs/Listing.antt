-- The one list of an answer (ISO 9075-2, 10.10; docs/LANGUAGE.md, Results).
use Rattle.std.specs.Prelude.{◌≡◌, ℕ, Bool, true, false, List, [], ◌∷◌, Option, Some, None, take}
use Rattle.std.specs.declared.cmp.Ordering.{Ordering}
use Rattle.std.specs.Ordering.{ordering_then, is_gt}
use Rattle.std.specs.List.{AllByRecursion}
use Rattle.cq_values.specs.declared.value.Value.{Value}
use Rattle.cq_values.specs.Value.{Row, column}
use Rattle.cq_values.specs.Order.{value_cmp, row_cmp}
use Rattle.cq_model_bags.specs.declared.sort_key.SortKey.{SortKey}
use Rattle.cq_model_bags.specs.Bag.{Weighted, SameBag, once_each}

-- DESC turns one key round, NULL included
abbrev pub directed : Bool → Value → Value → Ordering
directed false v w = value_cmp v w
directed true v w = value_cmp w v

-- by the keys in turn, and then by all columns
abbrev pub listing_cmp : List SortKey → Row → Row → Ordering
listing_cmp [] r s = row_cmp r s
listing_cmp (k ∷ ks) r s = ordering_then (directed k.descending (column r k.column) (column s k.column)) (listing_cmp ks r s)

-- no row stands before a smaller one
abbrev pub IsInOrder : (Row → Row → Ordering) → List Row → Type 0
IsInOrder cmp [] = Unit {0}
IsInOrder cmp (r ∷ rs) = AllByRecursion (λ s. is_gt (cmp r s) ≡ false) rs × IsInOrder cmp rs

-- a list that has the bag and is in order
pub record Lists (keys : List SortKey) (bag : Weighted) (rows : List Row) : Type 0 where
  pub same : SameBag (once_each rows) bag
  pub in_order : IsInOrder (listing_cmp keys) rows

abbrev pub first_rows : Option ℕ → List Row → List Row
first_rows None rows = rows
first_rows (Some n) rows = take n rows

-- the answer's list
abbrev pub IsListing : List SortKey → Option ℕ → Weighted → List Row → Type 0
IsListing keys limit bag rows = (all : List Row) × Lists keys bag all × (rows ≡ first_rows limit all)
