-- What changed rows add to the groups of a view.
use Rattle.std.specs.Prelude.{◌≤◌, ℕ, ℤ, if◌then◌else◌, List, map, Option, None, Some, IfSome, nat_abs, pos}
use Rattle.cq_values.specs.declared.value.Value.{Value}
use Rattle.cq_values.specs.Value.{Row}
use Rattle.cq_model_bags.specs.Bag.{Weighted}
use Rattle.cq_model.specs.declared.query.Aggregate.{Aggregate}
use Rattle.cq_model.specs.declared.query.Aggregate.TheVariants.{CountAll, Count, CountDistinct, Sum, Min, Max}
use Rattle.cq_model.specs.Condition.{is_null}
use Rattle.cq_model.specs.Eval.{eval}
use Rattle.cq_model.specs.Group.{addend, key_of}
use Rattle.cq_model.specs.Width.{IsNarrowAt, number_limit}
use Rattle.cq_deltas.specs.declared.change.Addend.{Addend}
use Rattle.cq_deltas.specs.declared.change.Addend.TheVariants.{Number, Listed}

-- what a value adds to a total; NULL is not even counted
abbrev pub counted_addend : Value → Option Addend
counted_addend v = if is_null v then None else Some (Number (addend v))

-- what a row adds to an aggregate
abbrev pub addend_of : Row → Aggregate → Option Addend
addend_of r CountAll = Some (Number (pos 0))
addend_of r (Count e) = counted_addend (eval e r)
addend_of r (Sum e) = counted_addend (eval e r)
addend_of r (CountDistinct e) = Some (Listed (eval e r))
addend_of r (Min e) = Some (Listed (eval e r))
addend_of r (Max e) = Some (Listed (eval e r))

-- what a row adds to each aggregate
abbrev pub addends_of : Row → List Aggregate → List (Option Addend)
addends_of r aggregates = map (addend_of r) aggregates

-- what a changed row adds: to the group of its key so many rows, and to each aggregate what its argument adds
pub record Addition : Type 0 where
  pub key : Row
  pub weight : ℤ
  pub addends : List (Option Addend)

-- what this row adds, with this weight
abbrev pub addition : List ℕ → List Aggregate → Row × ℤ → Addition
addition columns aggregates x = record { key = key_of columns x.0; weight = x.1; addends = addends_of x.0 aggregates }

-- what a change of the rows adds
abbrev pub additions : List ℕ → List Aggregate → Weighted → List Addition
additions columns aggregates dxs = map (addition columns aggregates) dxs

-- no number that is written or worked out on the way to an aggregate's argument is too wide
abbrev pub IsNarrow : Row → Aggregate → Type 0
IsNarrow r CountAll = Unit {0}
IsNarrow r (Count e) = IsNarrowAt e r
IsNarrow r (CountDistinct e) = IsNarrowAt e r
IsNarrow r (Sum e) = IsNarrowAt e r
IsNarrow r (Min e) = IsNarrowAt e r
IsNarrow r (Max e) = IsNarrowAt e r

-- what is added is no larger than a number can be
abbrev pub IsSmallAddend : Addend → Type 0
IsSmallAddend (Number n) = nat_abs n ≤ number_limit
IsSmallAddend (Listed v) = Unit {0}

-- what a row adds to an aggregate is no larger
abbrev pub IsSmall : Row → Aggregate → Type 0
IsSmall r a = IfSome (addend_of r a) IsSmallAddend
