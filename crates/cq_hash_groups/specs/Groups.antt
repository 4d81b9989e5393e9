-- Groups of the rows that were added to a table, and what is kept of them.
use Rattle.std.specs.Prelude.{◌≡◌, ◌+◌, ℕ, ◌<◌, ◌^◌, not, List, [], ◌∷◌, ◌++◌, length, map, filter, Option, Some, None, slice_index_or, unwrap_or}
use Rattle.std.specs.List.{AllByRecursion}
use Rattle.cq_values.specs.declared.value.Value.{Value}
use Rattle.cq_values.specs.Order.{same_row}
use Rattle.cq_values.specs.Value.{Row}
use Rattle.cq_model_bags.specs.Bag.{firsts, once_each}
use Rattle.cq_model.specs.Condition.{is_null}
use Rattle.cq_model.specs.Group.{SumsInRange, extreme, grouped, key_of}
use Rattle.cq_model.specs.declared.query.Aggregate.{Aggregate}
use Rattle.cq_model.specs.declared.query.Aggregate.TheVariants.{CountAll, Count, CountDistinct, Sum, Min, Max}
use Rattle.cq_vectors.specs.Gathered.{column_of}
use Rattle.cq_model.specs.declared.fault.ShowFault.{ShowFault}
use Rattle.cq_model.specs.declared.fault.ShowFault.TheVariants.{SumOutOfRange}
use Rattle.cq_hash_keys_values.specs.Met.{with_new}
use Rattle.cq_hash_keys_values.specs.Values.{same_value}
use Rattle.cq_hash_keys.specs.Keys.{HasValues, key_at}
use Rattle.cq_hash_groups_slots.specs.declared.bests.Extreme.{Extreme}
use Rattle.cq_hash_groups_slots.specs.declared.bests.Extreme.TheVariants.{Least, Greatest}
use Rattle.cq_hash_groups_slots.specs.declared.slots.Slots.{Slots}
use Rattle.cq_hash_groups_slots.specs.declared.slots.Slots.TheVariants.{Counts, Sums, Bests, Sets}
use Rattle.cq_hash_groups_sums.specs.declared.wide_sums.Sum.{Sum as Summed}
use Rattle.cq_hash_groups_sums.specs.Puts.{summed}
use Rattle.cq_hash_groups_slots.specs.Puts.{best_of}
use Rattle.cq_hash_groups_slots.specs.Slots.{AreWithin, CanShow, empty_slots, grown_slots, no_slots, put_nulls, put_slots, shown_at}
use Rattle.cq_hash_groups.specs.Arguments.{argument}
use Rattle.cq_hash_groups.specs.Lead.{counted_beside, first_sum}
use Rattle.cq_model.specs.Totals.{total_of}
use Rattle.cq_writestore_rows.specs.Filling.{Filled}

-- a table of groups: what is asked, how many rows there were, the keys that were met, and what is kept for each aggregate
pub record StoredGroups : Type 0 where
  pub keys : Option (List ℕ)
  pub aggregates : List Aggregate
  pub count : ℕ
  pub found : List Row
  pub slots : List Slots

-- of these parts
abbrev pub stored : Option (List ℕ) → List Aggregate → ℕ → List Row → List Slots → StoredGroups
stored keys aggregates count found slots = record { keys = keys; aggregates = aggregates; count = count; found = found; slots = slots }

-- the columns of GROUP BY, and none without it
abbrev pub group_columns : Option (List ℕ) → List ℕ
group_columns keys = unwrap_or keys []

-- without GROUP BY there is one group from the start
abbrev pub first_keys : Option (List ℕ) → List Row
first_keys None = [] ∷ []
first_keys (Some columns) = []

-- the key of each row
abbrev pub keys_in : Option (List ℕ) → List Row → List Row
keys_in keys rows = map (key_of (group_columns keys)) rows

-- the number of each row is that of its key among those that were found
abbrev pub TellKeys : List Row → List ℕ → Option (List ℕ) → List Row → Type 0
TellKeys found numbers keys rows = map (key_at found) numbers ≡ keys_in keys rows

-- the columns that make up the keys
abbrev pub columns_in : Option (List ℕ) → List Row → List (List Value)
columns_in keys rows = map (column_of rows) (group_columns keys)

-- the keys of the groups of these rows, as they were first met
abbrev pub group_keys : Option (List ℕ) → List Row → List Row
group_keys keys rows = firsts (first_keys keys ++ map (key_of (group_columns keys)) rows)

-- the rows that have a key
abbrev pub rows_at : List ℕ → List Row → Row → List Row
rows_at columns rows key = filter (λ r. same_row (key_of columns r) key) rows

-- values other than NULL
abbrev pub known : List Value → List Value
known values = filter (λ v. not (is_null v)) values

-- how many of them there are
abbrev pub kept_count : List Value → ℕ
kept_count values = length (known values)

-- each of them once, as they were first met
abbrev pub kept_set : List Value → List Value
kept_set values = with_new same_value [] (known values)

-- their exact total
abbrev pub kept_sum : List Value → Summed
kept_sum values = summed (length (known values)) (total_of (known values))

-- the best of them
abbrev pub kept_best : Extreme → List Value → Value
kept_best which values = extreme (best_of which) (known values)

-- how many NULLs there are
abbrev pub kept_nulls : List Value → ℕ
kept_nulls values = length (filter is_null values)

-- of each group what is kept of its values
abbrev pub kept_each : {S : Type 0} → (List Value → S) → (Row → Value) → List ℕ → List Row → List Row → List S
kept_each kept value columns rows keys = map (λ key. kept (map value (rows_at columns rows key))) keys

-- what is told for an aggregate of the groups of these keys
abbrev pub slots_at : List ℕ → List Row → List Row → Aggregate → Slots
slots_at columns rows keys CountAll = Counts (kept_each kept_count (argument CountAll) columns rows keys)
slots_at columns rows keys (Count e) = Counts (kept_each kept_count (argument (Count e)) columns rows keys)
slots_at columns rows keys (CountDistinct e) = Sets (kept_each kept_set (argument (CountDistinct e)) columns rows keys)
slots_at columns rows keys (Sum e) = Sums (kept_each kept_sum (argument (Sum e)) columns rows keys)
slots_at columns rows keys (Min e) = Bests Least (kept_each (kept_best Least) (argument (Min e)) columns rows keys)
slots_at columns rows keys (Max e) = Bests Greatest (kept_each (kept_best Greatest) (argument (Max e)) columns rows keys)

-- what is kept for it: the same, or how many NULLs another one reads
abbrev pub kept_as : List ℕ → List Row → List Row → Aggregate → Option Aggregate → Slots
kept_as columns rows keys a None = slots_at columns rows keys a
kept_as columns rows keys a (Some lead) = Counts (kept_each kept_nulls (argument lead) columns rows keys)

-- beside the first SUM
abbrev pub kept_at : List ℕ → List Row → List Row → Option Aggregate → Aggregate → Slots
kept_at columns rows keys lead a = kept_as columns rows keys a (counted_beside lead a)

-- the table is the one of these rows
pub record Holds (t : StoredGroups) (rows : List Row) : Type 0 where
  pub count : t.count ≡ length rows
  pub found : t.found ≡ group_keys t.keys rows
  pub slots : t.slots ≡ map (kept_at (group_columns t.keys) rows t.found (first_sum t.aggregates)) t.aggregates

-- the table of any rows becomes the one of these behind them
abbrev pub HoldsMore : List Row → StoredGroups → StoredGroups → Type 0
HoldsMore more old new = (rows : List Row) → Holds old rows → Holds new (rows ++ more)

-- the values are the key, if that has so many
abbrev pub IsKey : ℕ → Row → Row → Type 0
IsKey width key row = HasValues width key → row ≡ key

-- the row of a group: its key, and then its aggregates
abbrev pub shown_row : Row → ℕ → List Slots → Row
shown_row key group slots = key ++ map (shown_at group) slots

-- the row of a group stands behind those that were there, if its key has so many values
abbrev pub AddsShownRow : ℕ → List Row → ℕ → List Slots → Filled → Filled → Type 0
AddsShownRow width keys group slots old new =
    let key = key_at keys group in HasValues width key → new.rows ≡ old.rows ++ shown_row key group slots ∷ []

-- a row has begun with so many values, which are those of the key
pub record BeginsKey (width : ℕ) (key : Row) (old new : Filled) : Type 0 where
  pub rows : new.rows ≡ old.rows
  pub wide : new.width ≡ old.width
  pub count : length new.begun ≡ width
  pub values : IsKey width key new.begun

-- the rows of the groups are those of these rows
abbrev pub AreGroups : StoredGroups → List Row → List Row → Type 0
AreGroups t rows groups = once_each groups ≡ grouped t.keys t.aggregates (once_each rows)

-- in no group is a SUM's total too large to show
abbrev pub CanBeShown : StoredGroups → List Row → Type 0
CanBeShown t rows = SumsInRange t.keys t.aggregates (once_each rows)

-- a fault for a total is told only where one cannot be shown
abbrev pub IsGroupsFault : StoredGroups → List Row → ShowFault → Type 0
IsGroupsFault t rows e = e ≡ SumOutOfRange → CanBeShown t rows → ⊥

-- so it is for one group and what is kept of it
abbrev pub IsSlotsFault : ℕ → List Slots → ShowFault → Type 0
IsSlotsFault group slots e = e ≡ SumOutOfRange → AllByRecursion (CanShow group) slots → ⊥

-- for no aggregate has a group more values than this
abbrev pub AreAllWithin : ℕ → List Slots → Type 0
AreAllWithin most slots = (place : ℕ) → AreWithin most (slice_index_or slots place no_slots)

-- each group has so many values more at most
abbrev pub StayWithin : ℕ → List Slots → List Slots → Type 0
StayWithin more old new = (n : ℕ) → AreAllWithin n old → AreAllWithin (n + more) new

-- keys are as wide as GROUP BY says, and no group has more values than there were rows
pub record IsTable (keys : Option (List ℕ)) (values count : ℕ) (slots : List Slots) : Type 0 where
  pub width : values ≡ length (group_columns keys)
  pub few : count < 2 ^ 64
  pub within : AreAllWithin count slots

-- what is kept of groups without rows for each aggregate
abbrev pub new_slots : ℕ → List Aggregate → List Slots
new_slots groups aggregates = map (λ a. grown_slots groups (empty_slots a)) aggregates

-- with the rows of a batch added to what is kept for one aggregate, or the NULLs that another one reads of them
abbrev pub added_as : Option Aggregate → ℕ → List ℕ → List Row → Aggregate → Slots → Slots
added_as None groups numbers rows a slots = put_slots numbers (map (argument a) rows) (grown_slots groups slots)
added_as (Some lead) groups numbers rows a slots = put_nulls numbers (map (argument lead) rows) (grown_slots groups slots)

-- beside the first SUM
abbrev pub added_slots : Option Aggregate → ℕ → List ℕ → List Row → Aggregate → Slots → Slots
added_slots lead groups numbers rows a slots = added_as (counted_beside lead a) groups numbers rows a slots

-- and for each aggregate
abbrev pub all_added : Option Aggregate → ℕ → List ℕ → List Row → List Aggregate → List Slots → List Slots
all_added lead groups numbers rows [] slots = slots
all_added lead groups numbers rows (a ∷ aggregates) [] = []
all_added lead groups numbers rows (a ∷ aggregates) (s ∷ slots) = added_slots lead groups numbers rows a s ∷ all_added lead groups numbers rows aggregates slots

-- the rows of a batch were added to what is kept for the aggregate at a place
abbrev pub IsAdded : List Aggregate → ℕ → ℕ → List ℕ → List Row → Slots → Slots → Type 0
IsAdded aggregates place groups numbers rows old new =
    new ≡ added_slots (first_sum aggregates) groups numbers rows (slice_index_or aggregates place CountAll) old

-- and to what is kept for each
abbrev pub AreAdded : ℕ → List ℕ → List Row → List Aggregate → List Slots → List Slots → Type 0
AreAdded groups numbers rows aggregates old new = new ≡ all_added (first_sum aggregates) groups numbers rows aggregates old
