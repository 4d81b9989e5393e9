-- What a write changed in a table.
use Rattle.std.specs.Prelude.{◌≡◌, ◌≤◌, ℕ, Bool, List, Option, IfSome, is_some}
use Rattle.cq_values.specs.Value.{Row}
use Rattle.cq_model_bags.specs.Bag.{SameBag, difference, once_each}
use Rattle.cq_model_state.specs.State.{ChangeOf}
use Rattle.cq_sides_weights.specs.Held.{sizes}
use Rattle.cq_views.specs.Changes.{exchanged}
use Rattle.cq_engine_queue.specs.History.{IsSmall}

-- the change takes the table of a number from its old rows to new ones, and is small
pub record IsChangeAt (n : ℕ) (old new : List Row) (c : ChangeOf) : Type 0 where
  pub table : c.table ≡ n
  pub rows : SameBag c.rows (difference (once_each new) (once_each old))
  pub small : IsSmall c

-- the change that took place is told where it is asked for, and else none is
pub record Tells (asked : Bool) (n : ℕ) (old new : List Row) (told : Option ChangeOf) : Type 0 where
  pub there : is_some told ≡ asked
  pub is : IfSome told (IsChangeAt n old new)

-- the weights that are told come to no more than so many rows
abbrev pub TellsAtMost : ℕ → Option ChangeOf → Type 0
TellsAtMost most told = IfSome told (λ c. sizes c.rows ≤ most)

-- the change is that these rows leave the table of a number, and those come
abbrev pub IsExchange : ℕ → List Row → List Row → ChangeOf → Type 0
IsExchange n gone come c = c ≡ record { table = n; rows = exchanged gone come }
