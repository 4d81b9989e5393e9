-- What a view keeps behind its joins as it is stored, and what changes of the joined rows make of it.
use Rattle.std.specs.Prelude.{◌≡◌, ◌+◌, ◌≤◌, ◌^◌, List, ◌++◌, length}
use Rattle.cq_values.specs.Value.{Row}
use Rattle.cq_model_bags.specs.Bag.{Weighted, SameBag, IsBag, filtered, projected}
use Rattle.cq_views_model.specs.Kept.{Last, Images, Groups, LastStands}
use Rattle.cq_model.specs.Meaning.{items_of, keeps}
use Rattle.cq_model.specs.declared.query.Aggregate.{Aggregate}
use Rattle.cq_model.specs.declared.query.Query.{Query}
use Rattle.cq_sides_weights.specs.Held.{Held, StaysSmall, sizes}
use Rattle.cq_deltas_joins.specs.Steps.{AreStored}
use Rattle.cq_deltas.specs.Additions.{additions}
use Rattle.cq_deltas.specs.Placed.{Placed}
use Rattle.cq_deltas.specs.Keyed.{HasKeys, HoldsFor, KeyedGroups, additions_at, group_at}
use Rattle.cq_views_model.specs.Query.{aggregates_of, key_columns}
use Rattle.cq_views_state.specs.declared.last.Last.{Last as Stored}
use Rattle.cq_views_state.specs.declared.last.Last.TheVariants as stored
use Rattle.cq_views_state.specs.declared.last.LastChange.{LastChange}
use Rattle.cq_views_state.specs.declared.last.LastChange.TheVariants as change

-- the group of each key, or the images, as they are stored
abbrev pub seen : List Aggregate → Stored → Last
seen aggregates (stored.Groups groups) = Groups (group_at aggregates groups)
seen aggregates (stored.Images rows) = Images rows.entries

-- it stands for the rows that WHERE keeps
abbrev pub StandsBehind : Query → Weighted → Stored → Type 0
StandsBehind query xs last = LastStands query query.shape xs (seen (aggregates_of query) last)

-- the rows that the view's WHERE keeps
abbrev pub kept_rows : Query → Weighted → Weighted
kept_rows query xs = filtered (keeps query.filter) xs

-- these are the images of rows, with their weights
abbrev pub AreImages : Query → Weighted → Held → Type 0
AreImages query xs images = SameBag images.entries (projected (items_of query.items) xs)

-- these are what rows add to the groups
abbrev pub AreAdded : Query → Weighted → KeyedGroups → List Placed → Type 0
AreAdded query xs groups more = additions_at groups more ≡ additions (key_columns query) (aggregates_of query) xs

-- each key has the group that it had
abbrev pub GroupsStay : Query → KeyedGroups → KeyedGroups → Type 0
GroupsStay query old new = (k : Row) → group_at (aggregates_of query) new k ≡ group_at (aggregates_of query) old k

-- what a change of the rows that WHERE keeps adds to these groups, or to images
abbrev pub IsChangeOf : Query → Weighted → Stored → LastChange → Type 0
IsChangeOf query dxs (stored.Groups groups) (change.Groups more) = AreAdded query dxs groups more
IsChangeOf query dxs (stored.Images rows) (change.Images more) = AreImages query dxs more
IsChangeOf query dxs last more = ⊥

-- there is room for a change, and no count, total or weight leaves its range
abbrev pub CanPut : Stored → LastChange → Type 0
CanPut (stored.Groups groups) (change.Groups more) = HasKeys more groups × HoldsFor (additions_at groups more) groups
CanPut (stored.Images rows) (change.Images more) = (length more.entries ≤ rows.room) × StaysSmall more.entries rows.entries
CanPut last more = ⊥

-- it stands for stored rows, and they and these are few enough
pub record CanTakeIn (query : Query) (last : Stored) (dxs : Weighted) : Type 0 where
  pub xs : Weighted
  pub stands : StandsBehind query xs last
  pub few : sizes xs + sizes dxs ≤ 2 ^ 122
  pub rows : AreStored xs × AreStored dxs

-- once the change is put in, it stands for the changed rows
abbrev pub GoesOn : Stored → LastChange → Stored → Type 0
GoesOn old more new =
    (query : Query) (xs dxs ys : Weighted) → IsChangeOf query dxs old more → SameBag ys (xs ++ dxs) → IsBag ys
    → StandsBehind query xs old → StandsBehind query ys new
