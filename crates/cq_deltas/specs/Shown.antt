-- What the stored groups show.
use Rattle.std.specs.Prelude.{◌≡◌, ◌++◌, ℤ, pos, int_lt, if◌then◌else◌, List, [], ◌∷◌, map, filter, Result, IfErr}
use Rattle.std.specs.Ordering.{int_eq}
use Rattle.std.specs.List.{AllByRecursion}
use Rattle.cq_values.specs.declared.value.Value.{Value}
use Rattle.cq_values.specs.declared.value.Value.TheVariants.{Null, Number}
use Rattle.cq_values.specs.Value.{Row}
use Rattle.cq_model.specs.declared.fault.ShowFault.{ShowFault}
use Rattle.cq_model.specs.declared.fault.ShowFault.TheVariants.{SumOutOfRange}
use Rattle.cq_model.specs.declared.query.Aggregate.{Aggregate}
use Rattle.cq_model.specs.declared.query.Aggregate.TheVariants.{Sum}
use Rattle.cq_model.specs.Group.{InRange}
use Rattle.cq_views_model.specs.Kept.{Kept, Totalled, shown_row}
use Rattle.cq_values_rows.specs.Flat.{Flat}
use Rattle.cq_deltas.specs.declared.group.Group.{Group as StoredGroup}
use Rattle.cq_deltas.specs.declared.kept.Kept.{Kept as Stored}
use Rattle.cq_deltas.specs.Kept.{seen, seen_group}
use Rattle.cq_deltas.specs.Keyed.{KeyedGroups, group_at}

-- what is kept can be shown: a SUM's total fits
abbrev pub CanBeShown : Aggregate → Kept → Type 0
CanBeShown (Sum e) (Totalled n total) = InRange total
CanBeShown a kept = Unit {0}

-- so can all of a group
abbrev pub AllCanBeShown : List Aggregate → List Kept → Type 0
AllCanBeShown (a ∷ aggregates) (k ∷ kept) = CanBeShown a k × AllCanBeShown aggregates kept
AllCanBeShown aggregates kept = Unit {0}

-- and of a group as it is stored
abbrev pub GroupCanBeShown : List Aggregate → StoredGroup → Type 0
GroupCanBeShown aggregates group = AllCanBeShown aggregates (seen_group group).kept

-- a SUM is refused as out of range only where this does not hold
abbrev pub RefusesUnless : {A : Type 0} → Type 0 → Result A ShowFault → Type 0
RefusesUnless shown result = IfErr result (λ fault. fault ≡ SumOutOfRange → shown → ⊥)

-- what a SUM of so many values shows: their total, and NULL of none
abbrev pub shown_total : ℤ → ℤ → Value
shown_total values total = if int_eq values (pos 0) then Null else Number total

-- the row that is begun goes on with a group's row: the key, and then what the aggregates show
abbrev pub ShowsRow : List Aggregate → Row → List Kept → Flat → Flat → Type 0
ShowsRow aggregates key kept old new = new.begun ≡ old.begun ++ shown_row aggregates key kept

-- so it is with a group as it is stored
abbrev pub ShowsGroup : List Aggregate → Row → StoredGroup → Flat → Flat → Type 0
ShowsGroup aggregates key group old new = ShowsRow aggregates key (seen_group group).kept old new

-- so it is with what is stored of the aggregates
abbrev pub ShowsStored : List Aggregate → Row → List Stored → Flat → Flat → Type 0
ShowsStored aggregates key kept old new = ShowsRow aggregates key (map seen kept) old new

-- the groups that have rows
abbrev pub counted : KeyedGroups → KeyedGroups
counted groups = filter (λ e. int_lt (pos 0) e.1.count) groups

-- their keys
abbrev pub counted_keys : KeyedGroups → List Row
counted_keys groups = map (λ e. e.0) (counted groups)

-- the rows that these groups show
abbrev pub group_rows : List Aggregate → KeyedGroups → List Row
group_rows aggregates groups = map (λ k. shown_row aggregates k (group_at aggregates groups k).kept) (counted_keys groups)

-- all of each of these groups can be shown
abbrev pub GroupsCanBeShown : List Aggregate → KeyedGroups → Type 0
GroupsCanBeShown aggregates groups = AllByRecursion (λ k. AllCanBeShown aggregates (group_at aggregates groups k).kept) (counted_keys groups)

-- the rows of groups as they stand in a list
abbrev pub entry_rows : List Aggregate → KeyedGroups → List Row
entry_rows aggregates groups = map (λ e. shown_row aggregates e.0 (seen_group e.1).kept) (counted groups)

-- these groups can be shown as they stand in a list
abbrev pub EntriesCanBeShown : List Aggregate → KeyedGroups → Type 0
EntriesCanBeShown aggregates groups = AllByRecursion (λ e. GroupCanBeShown aggregates e.1) (counted groups)

-- the row of one group, if the group has rows
abbrev pub entry_row : List Aggregate → Row → StoredGroup → List Row
entry_row aggregates k group = entry_rows aggregates ((k, group) ∷ [])

-- behind the rows stands that of this group, if it has rows
abbrev pub PutsEntry : List Aggregate → Row → StoredGroup → Flat → Flat → Type 0
PutsEntry aggregates k group old new = new.rows ≡ old.rows ++ entry_row aggregates k group

-- this group can be shown, if it has rows
abbrev pub EntryCanBeShown : List Aggregate → Row → StoredGroup → Type 0
EntryCanBeShown aggregates k group = EntriesCanBeShown aggregates ((k, group) ∷ [])
