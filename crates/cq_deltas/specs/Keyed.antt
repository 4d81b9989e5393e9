-- Groups by key, and what a change makes of them.
use Rattle.std.specs.Prelude.{◌≡◌, ◌<◌, ℕ, ℤ, pos, Bool, if◌then◌else◌, List, [], ◌∷◌, ◌++◌, length, map, nat_abs, Option, None, Some, unwrap_or, fold, slice_get}
use Rattle.std.specs.Ordering.{int_eq}
use Rattle.std.specs.List.{AllByRecursion, list_any, sum_by}
use Rattle.std.specs.Map.{keys_of, lookup, values_of}
use Rattle.std.specs.Option.{option_map}
use Rattle.cq_values.specs.Value.{Row}
use Rattle.cq_values.specs.Order.{same_row}
use Rattle.cq_model_bags.specs.Bag.{Weighted, SameBag, IsBag}
use Rattle.cq_model.specs.Expr.{Cond}
use Rattle.cq_model.specs.declared.query.Aggregate.{Aggregate}
use Rattle.cq_model.specs.declared.query.Query.{Query}
use Rattle.cq_model.specs.declared.query.Shape.TheVariants.{Grouped}
use Rattle.cq_views_model.specs.Kept.{Group, Groups, LastStands, group_of}
use Rattle.cq_deltas.specs.declared.change.Addend.{Addend}
use Rattle.cq_deltas.specs.declared.group.Group.{Group as StoredGroup}
use Rattle.cq_deltas.specs.declared.grouping.Grouping.{Grouping}
use Rattle.cq_deltas.specs.Additions.{Addition, addition, additions}
use Rattle.cq_deltas.specs.Kept.{GroupHolds, GroupHoldsWith, HaveRoom, group_with, seen_group, total_moves}
use Rattle.cq_deltas.specs.Placed.{Placed}

-- keys with their groups as they are stored
abbrev pub KeyedGroups : Type 0
KeyedGroups = List (Row × StoredGroup)

-- how the group of a key is stored
abbrev pub held_at : KeyedGroups → Row → Option StoredGroup
held_at groups k = lookup (same_row k) groups

-- what is stored of a key
abbrev pub stored_at : KeyedGroups → Row → Option Group
stored_at groups k = option_map seen_group (held_at groups k)

-- the group of a key: where none is stored, that of no rows
abbrev pub group_at : List Aggregate → KeyedGroups → Row → Group
group_at aggregates groups k = unwrap_or (stored_at groups k) (group_of aggregates [])

-- of each key the same is stored as before
abbrev pub KeepStored : KeyedGroups → KeyedGroups → Type 0
KeepStored old new = (k : Row) → stored_at new k ≡ stored_at old k

-- each key has the group that it had, if only that of no rows
abbrev pub KeepGroups : List Aggregate → KeyedGroups → KeyedGroups → Type 0
KeepGroups aggregates old new = (k : Row) → group_at aggregates new k ≡ group_at aggregates old k

-- whether a change has a row with the key
abbrev pub is_met : List Addition → Row → Bool
is_met change k = list_any (λ x. same_row x.key k) change

-- a key's group with a changed row put in, if the row has that key
abbrev pub group_met : Row → Group → Addition → Group
group_met k group x = if same_row x.key k then group_with x.weight x.addends group else group

-- a key's group with a change put in
abbrev pub group_with_all : List Addition → Row → Group → Group
group_with_all change k group = fold (group_met k) group change

-- a group without rows is none
abbrev pub settled : Option Group → Option Group
settled None = None
settled (Some g) = if int_eq g.count (pos 0) then None else Some g

-- what is stored of a key after a change
abbrev pub stored_after : List Addition → Row → Option Group → Option Group
stored_after change k stored = if is_met change k then settled (option_map (group_with_all change k) stored) else stored

-- new is old with the change put in
pub record Takes (old : KeyedGroups) (change : List Addition) (new : KeyedGroups) : Type 0 where
  pub at : (k : Row) → stored_at new k ≡ stored_after change k (stored_at old k)

-- the group of the key stands at the place
abbrev pub StandsAt : KeyedGroups → Row → ℕ → Type 0
StandsAt groups k place = slice_get (keys_of groups) place ≡ Some k

-- the key of the group at a place
abbrev pub key_at : KeyedGroups → ℕ → Row
key_at groups place = unwrap_or (slice_get (keys_of groups) place) []

-- what a row adds to the group of the key at its place
abbrev pub addition_at : KeyedGroups → Placed → Addition
addition_at groups x = record { key = key_at groups x.place; weight = x.weight; addends = x.addends }

-- what a change adds to groups that stand at these places
abbrev pub additions_at : KeyedGroups → List Placed → List Addition
additions_at groups change = map (addition_at groups) change

-- a group is there, and has room for what a row adds
abbrev pub IsReadyFor : List (Option Addend) → Option StoredGroup → Type 0
IsReadyFor addends None = ⊥
IsReadyFor addends (Some g) = HaveRoom addends g.kept.items

-- so it is with the group at a place
abbrev pub IsReadyAt : List (Option Addend) → KeyedGroups → ℕ → Type 0
IsReadyAt addends groups place = IsReadyFor addends (slice_get (values_of groups) place)

-- groups stand where they stood, and what was ready still is
pub record KeepPlaces (old new : KeyedGroups) : Type 0 where
  pub keys : (place : ℕ) → place < length old → slice_get (keys_of new) place ≡ slice_get (keys_of old) place
  pub ready : (place : ℕ) (addends : List (Option Addend)) → IsReadyAt addends old place → IsReadyAt addends new place

-- each row's group is there and has room: what groups have that were made ready for the change
pub record HasKeys (change : List Placed) (groups : KeyedGroups) : Type 0 where
  pub at : AllByRecursion (λ x. IsReadyAt x.addends groups x.place) change

-- what a row adds waits behind the rest of a change, and the groups are ready for them all
pub record AddsBehind (old : KeyedGroups) (change : List Placed) (x : Addition) (new : KeyedGroups) (more : List Placed) : Type 0 where
  pub adds : additions_at new more ≡ additions_at old change ++ x ∷ []
  pub keys : HasKeys more new

-- so it is with what a row adds that has this weight
abbrev pub Adds : Grouping → Row → ℤ → KeyedGroups → List Placed → KeyedGroups → List Placed → Type 0
Adds by r weight old change new more = AddsBehind old change (addition by.columns.now by.aggregates.now (r, weight)) new more

-- each stored group has the changed rows put in, and none is dropped
abbrev pub ArePut : KeyedGroups → List Addition → KeyedGroups → Type 0
ArePut old change new = (k : Row) → stored_at new k ≡ option_map (group_with_all change k) (stored_at old k)

-- so it is for one changed row
abbrev pub IsPut : KeyedGroups → Addition → KeyedGroups → Type 0
IsPut old x new = (k : Row) → stored_at new k ≡ option_map (λ g. group_met k g x) (stored_at old k)

-- of these keys, groups without rows are dropped, and nothing else changes
abbrev pub AreSettled : (Row → Bool) → KeyedGroups → KeyedGroups → Type 0
AreSettled keys old new = (k : Row) → stored_at new k ≡ (if keys k then settled (stored_at old k) else stored_at old k)

-- so it is with the keys of a change
abbrev pub ChangeIsSettled : List Placed → KeyedGroups → KeyedGroups → Type 0
ChangeIsSettled change old new = AreSettled (is_met (additions_at old change)) old new

-- so it is with the key at a place
abbrev pub IsSettledAt : ℕ → KeyedGroups → KeyedGroups → Type 0
IsSettledAt place old new = AreSettled (same_row (key_at old place)) old new

-- a changed row leaves its key's group in range
abbrev pub HoldsOne : Addition → KeyedGroups → Type 0
HoldsOne x groups = (g : Group) → stored_at groups x.key ≡ Some g → GroupHoldsWith x.weight x.addends g

-- how far a change can move a count
abbrev pub count_moves : List Addition → ℕ
count_moves change = sum_by (λ x. nat_abs x.weight) change

-- how far it can move a total
abbrev pub all_total_moves : List Addition → ℕ
all_total_moves change = sum_by (λ x. total_moves x.weight x.addends) change

-- no count and no total leaves its range while the change is put in
pub record HoldsFor (change : List Addition) (groups : KeyedGroups) : Type 0 where
  pub at : (k : Row) (g : Group) → stored_at groups k ≡ Some g → GroupHolds (count_moves change) (all_total_moves change) g

-- groups that stand for rows stand for the changed rows, once their change is put in
abbrev pub GroupsGoOn : KeyedGroups → List Addition → KeyedGroups → Type 0
GroupsGoOn old change new =
    (q : Query) (keys : Option (List ℕ)) (aggregates : List Aggregate) (having : Option Cond) (xs dxs ys : Weighted)
    → change ≡ additions (unwrap_or keys []) aggregates dxs → SameBag ys (xs ++ dxs) → IsBag ys
    → LastStands q (Grouped keys aggregates having) xs (Groups (group_at aggregates old))
    → LastStands q (Grouped keys aggregates having) ys (Groups (group_at aggregates new))
