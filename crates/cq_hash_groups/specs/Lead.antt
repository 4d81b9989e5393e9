-- The aggregate beside which rows are counted: COUNT(*) counts the NULLs of the first SUM, which counts the other rows.
use Rattle.std.specs.Prelude.{◌≡◌, ◌<◌, ℕ, Bool, true, false, List, [], ◌∷◌, Option, Some, None, length, map, position, slice_index_or}
use Rattle.std.specs.Borrow.{Bor}
use Rattle.cq_values.specs.Value.{Row}
use Rattle.cq_model.specs.declared.query.Aggregate.{Aggregate}
use Rattle.cq_model.specs.declared.query.Aggregate.TheVariants.{CountAll, Count, CountDistinct, Sum, Min, Max}
use Rattle.cq_operators_scans.specs.Operand.{values_in}
use Rattle.cq_hash_groups.specs.Arguments.{argument}
use Rattle.cq_hash_groups.specs.declared.lead.Lead.{Lead}
use Rattle.cq_hash_groups_slots.specs.declared.slots.Slots.{Slots}
use Rattle.cq_hash_groups_slots.specs.Slots.{beside, no_slots}

-- whether it adds values up
abbrev pub is_sum : Aggregate → Bool
is_sum CountAll = false
is_sum (Count e) = false
is_sum (CountDistinct e) = false
is_sum (Sum e) = true
is_sum (Min e) = false
is_sum (Max e) = false

-- whether it counts rows
abbrev pub is_count_all : Aggregate → Bool
is_count_all CountAll = true
is_count_all (Count e) = false
is_count_all (CountDistinct e) = false
is_count_all (Sum e) = false
is_count_all (Min e) = false
is_count_all (Max e) = false

-- where the first SUM stands
abbrev pub sum_place : List Aggregate → Option ℕ
sum_place aggregates = position is_sum aggregates

-- the aggregate of a place, where there is one
abbrev pub at_place : List Aggregate → Option ℕ → Option Aggregate
at_place aggregates None = None
at_place aggregates (Some place) = Some (slice_index_or aggregates place CountAll)

-- the first SUM
abbrev pub first_sum : List Aggregate → Option Aggregate
first_sum aggregates = at_place aggregates (sum_place aggregates)

-- what is kept at a place, where there is one
abbrev pub slots_of : List Slots → Option ℕ → Slots
slots_of slots None = no_slots
slots_of slots (Some place) = slice_index_or slots place no_slots

-- what is kept for the first SUM
abbrev pub lead_at : List Aggregate → List Slots → Slots
lead_at aggregates slots = slots_of slots (sum_place aggregates)

-- the aggregate whose NULLs are counted in the place of rows
abbrev pub counted_beside : Option Aggregate → Aggregate → Option Aggregate
counted_beside lead CountAll = lead
counted_beside lead (Count e) = None
counted_beside lead (CountDistinct e) = None
counted_beside lead (Sum e) = None
counted_beside lead (Min e) = None
counted_beside lead (Max e) = None

-- the values are those that the first SUM reads of the rows
abbrev pub IsLead : List Aggregate → List Row → Option Lead → Type 0
IsLead aggregates rows None = sum_place aggregates ≡ None
IsLead aggregates rows (Some lead) =
    (sum_place aggregates ≡ Some lead.place) × (lead.place < length aggregates) × (values_in lead.values ≡ map (argument (slice_index_or aggregates lead.place CountAll)) rows)

-- what is lent, and nothing where nothing is
abbrev pub lead_in : Option (Bor Slots) → Slots
lead_in None = no_slots
lead_in (Some slots) = slots.now

-- what an aggregate shows: COUNT(*) that of its NULLs beside the lead
abbrev pub told_one : Slots → Aggregate → Slots → Slots
told_one lead CountAll own = beside lead own
told_one lead (Count e) own = own
told_one lead (CountDistinct e) own = own
told_one lead (Sum e) own = own
told_one lead (Min e) own = own
told_one lead (Max e) own = own

-- and each of them
abbrev pub told : Slots → List Aggregate → List Slots → List Slots
told lead [] slots = []
told lead (a ∷ aggregates) [] = []
told lead (a ∷ aggregates) (own ∷ slots) = told_one lead a own ∷ told lead aggregates slots
