-- What is kept of all groups for one aggregate.
use Rattle.std.specs.Prelude.{ℕ, ◌+◌, pos, List, [], ◌∷◌, length, slice_index_or}
use Rattle.cq_values.specs.declared.value.Value.{Value}
use Rattle.cq_values.specs.declared.value.Value.TheVariants.{Null, Number}
use Rattle.cq_model.specs.declared.query.Aggregate.{Aggregate}
use Rattle.cq_model.specs.declared.query.Aggregate.TheVariants.{CountAll, Count, CountDistinct, Sum, Min, Max}
use Rattle.cq_model.specs.Group.{InRange}
use Rattle.cq_hash_groups_slots.specs.declared.bests.Extreme.TheVariants.{Least, Greatest}
use Rattle.cq_hash_groups_slots.specs.declared.slots.Slots.{Slots}
use Rattle.cq_hash_groups_slots.specs.declared.slots.Slots.TheVariants.{Counts, Sums, Bests, Sets}
use Rattle.cq_hash_groups_sums.specs.declared.wide_sums.Sum.{Sum as Summed}
use Rattle.cq_hash_groups_sums.specs.Puts.{grown, put_all, put_sum, no_sum, shown_sum, AreSumsWithin}
use Rattle.cq_hash_groups_distinct.specs.Sets.{put_value}
use Rattle.cq_hash_groups_slots.specs.Puts.{put_count, put_null, put_best, AreCountsWithin}

-- what is kept of no groups
abbrev pub empty_slots : Aggregate → Slots
empty_slots CountAll = Counts []
empty_slots (Count e) = Counts []
empty_slots (CountDistinct e) = Sets []
empty_slots (Sum e) = Sums []
empty_slots (Min e) = Bests Least []
empty_slots (Max e) = Bests Greatest []

-- nothing is kept
abbrev pub no_slots : Slots
no_slots = Bests Least []

-- of how many groups something is kept
abbrev pub groups_in : Slots → ℕ
groups_in (Counts counts) = length counts
groups_in (Sums sums) = length sums
groups_in (Bests which values) = length values
groups_in (Sets sets) = length sets

-- a new group has no values
abbrev pub grown_slots : ℕ → Slots → Slots
grown_slots groups (Counts counts) = Counts (grown 0 groups counts)
grown_slots groups (Sums sums) = Sums (grown no_sum groups sums)
grown_slots groups (Bests which values) = Bests which (grown Null groups values)
grown_slots groups (Sets sets) = Sets (grown [] groups sets)

-- the values put into the groups of their numbers
abbrev pub put_slots : List ℕ → List Value → Slots → Slots
put_slots numbers values (Counts counts) = Counts (put_all put_count 0 numbers values counts)
put_slots numbers values (Sums sums) = Sums (put_all put_sum no_sum numbers values sums)
put_slots numbers values (Bests which bests) = Bests which (put_all (put_best which) Null numbers values bests)
put_slots numbers values (Sets sets) = Sets (put_all put_value [] numbers values sets)

-- the NULLs counted in the groups of their numbers, where counts are kept
abbrev pub put_nulls : List ℕ → List Value → Slots → Slots
put_nulls numbers values (Counts nulls) = Counts (put_all put_null 0 numbers values nulls)
put_nulls numbers values (Sums sums) = Sums sums
put_nulls numbers values (Bests which bests) = Bests which bests
put_nulls numbers values (Sets sets) = Sets sets

-- how many rows each group has: as many as there are values in its sum, and NULLs
abbrev pub rows_counted : List Summed → List ℕ → List ℕ
rows_counted [] nulls = nulls
rows_counted (sum ∷ sums) [] = sum.count ∷ rows_counted sums []
rows_counted (sum ∷ sums) (n ∷ nulls) = (sum.count + n) ∷ rows_counted sums nulls

-- counts of NULLs beside the sums of the same values are counts of rows
abbrev pub beside : Slots → Slots → Slots
beside (Sums sums) (Counts nulls) = Counts (rows_counted sums nulls)
beside (Sums sums) (Sums own) = Sums own
beside (Sums sums) (Bests which own) = Bests which own
beside (Sums sums) (Sets own) = Sets own
beside (Counts counts) own = own
beside (Bests which values) own = own
beside (Sets sets) own = own

-- no group has more values than this
abbrev pub AreWithin : ℕ → Slots → Type 0
AreWithin most (Counts counts) = AreCountsWithin most counts
AreWithin most (Sums sums) = AreSumsWithin most sums
AreWithin most (Bests which values) = Unit {0}
AreWithin most (Sets sets) = Unit {0}

-- what a group shows
abbrev pub shown_at : ℕ → Slots → Value
shown_at group (Counts counts) = Number (pos (slice_index_or counts group 0))
shown_at group (Sums sums) = shown_sum (slice_index_or sums group no_sum)
shown_at group (Bests which values) = slice_index_or values group Null
shown_at group (Sets sets) = Number (pos (length (slice_index_or sets group [])))

-- the total of a group can be shown
abbrev pub CanShow : ℕ → Slots → Type 0
CanShow group (Counts counts) = Unit {0}
CanShow group (Sums sums) = InRange (slice_index_or sums group no_sum).total
CanShow group (Bests which values) = Unit {0}
CanShow group (Sets sets) = Unit {0}
