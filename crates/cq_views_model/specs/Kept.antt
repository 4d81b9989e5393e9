-- What a view keeps behind its joins: groups with counts, exact totals and counted values, or images of rows.
use Rattle.std.specs.Prelude.{◌≡◌, ℤ, pos, if◌then◌else◌, List, [], ◌∷◌, ◌++◌, map, length, unwrap_or}
use Rattle.std.specs.Ordering.{int_eq}
use Rattle.cq_values.specs.declared.value.Value.{Value}
use Rattle.cq_values.specs.declared.value.Value.TheVariants.{Null, Number}
use Rattle.cq_values.specs.Value.{Row}
use Rattle.cq_model_bags.specs.Bag.{Weighted, SameBag, projected}
use Rattle.cq_model.specs.declared.query.Aggregate.{Aggregate}
use Rattle.cq_model.specs.declared.query.Aggregate.TheVariants.{CountAll, Count, CountDistinct, Sum, Min, Max}
use Rattle.cq_model.specs.declared.query.Query.{Query}
use Rattle.cq_model.specs.declared.query.Shape.{Shape}
use Rattle.cq_model.specs.declared.query.Shape.TheVariants.{Plain, Grouped}
use Rattle.cq_model.specs.Group.{count_all, count_values, sum_values, value_bag, distinct_values, extreme_of, lower, higher, rows_of_key}
use Rattle.cq_model.specs.Meaning.{items_of}

-- what is kept of an aggregate: a count, with a total, or counted values
pub data Kept : Type 0 where
  Counted : (values : ℤ) → Kept
  Totalled : (values total : ℤ) → Kept
  Listed : (values : Weighted) → Kept

-- what is kept shows the aggregate of these rows
abbrev pub IsKept : Aggregate → Weighted → Kept → Type 0
IsKept CountAll xs (Counted n) = n ≡ count_all xs
IsKept (Count e) xs (Counted n) = n ≡ count_values e xs
IsKept (CountDistinct e) xs (Listed values) = SameBag values (value_bag e xs)
IsKept (Sum e) xs (Totalled n total) = (n ≡ count_values e xs) × (total ≡ sum_values e xs)
IsKept (Min e) xs (Listed values) = SameBag values (value_bag e xs)
IsKept (Max e) xs (Listed values) = SameBag values (value_bag e xs)
IsKept a xs kept = ⊥

-- the aggregate, as what is kept of it shows
abbrev pub kept_value : Aggregate → Kept → Value
kept_value CountAll (Counted n) = Number n
kept_value (Count e) (Counted n) = Number n
kept_value (CountDistinct e) (Listed values) = Number (pos (length (distinct_values values)))
kept_value (Sum e) (Totalled n total) = if int_eq n (pos 0) then Null else Number total
kept_value (Min e) (Listed values) = extreme_of lower values
kept_value (Max e) (Listed values) = extreme_of higher values
kept_value a kept = Null

-- one is kept for each aggregate, in their order
abbrev pub AreKept : List Aggregate → Weighted → List Kept → Type 0
AreKept [] xs [] = Unit {0}
AreKept (a ∷ aggregates) xs (k ∷ kept) = IsKept a xs k × AreKept aggregates xs kept
AreKept aggregates xs kept = ⊥

-- a group: how many rows it has, and what is kept of its aggregates
pub record Group : Type 0 where
  pub count : ℤ
  pub kept : List Kept

-- a group stands for the rows of its key
pub record GroupStands (aggregates : List Aggregate) (xs : Weighted) (group : Group) : Type 0 where
  pub count : group.count ≡ count_all xs
  pub kept : AreKept aggregates xs group.kept

-- behind the joins are images of rows, or each key's group; count zero is none
pub data Last : Type 0 where
  Images : (rows : Weighted) → Last
  Groups : (group : Row → Group) → Last

-- it stands for the rows that WHERE keeps, which without GROUP BY have one key
abbrev pub LastStands : Query → Shape → Weighted → Last → Type 0
LastStands q Plain xs (Images rows) = SameBag rows (projected (items_of q.items) xs)
LastStands q (Grouped keys aggregates having) xs (Groups group) =
    (k : Row) → GroupStands aggregates (rows_of_key (unwrap_or keys []) k xs) (group k)
LastStands q shape xs last = ⊥

-- all aggregates of a group, as what is kept of them shows
abbrev pub shown_values : List Aggregate → List Kept → Row
shown_values (a ∷ aggregates) (k ∷ kept) = kept_value a k ∷ shown_values aggregates kept
shown_values aggregates kept = []

-- a group's row, as what is kept of the group shows
abbrev pub shown_row : List Aggregate → Row → List Kept → Row
shown_row aggregates k kept = k ++ shown_values aggregates kept

-- what is kept of an aggregate of these rows, worked out from scratch
abbrev pub kept_of : Weighted → Aggregate → Kept
kept_of xs CountAll = Counted (count_all xs)
kept_of xs (Count e) = Counted (count_values e xs)
kept_of xs (CountDistinct e) = Listed (value_bag e xs)
kept_of xs (Sum e) = Totalled (count_values e xs) (sum_values e xs)
kept_of xs (Min e) = Listed (value_bag e xs)
kept_of xs (Max e) = Listed (value_bag e xs)

-- the group of these rows, worked out from scratch
abbrev pub group_of : List Aggregate → Weighted → Group
group_of aggregates xs = record { count = count_all xs; kept = map (kept_of xs) aggregates }

-- what stands behind the joins, worked out from the rows that WHERE keeps
abbrev pub built_last : Query → Shape → Weighted → Last
built_last q Plain xs = Images (projected (items_of q.items) xs)
built_last q (Grouped keys aggregates having) xs = Groups (λ k. group_of aggregates (rows_of_key (unwrap_or keys []) k xs))
