-- What is kept of a group, and what a changed row adds to it.
use Rattle.std.specs.Prelude.{◌≤◌, ◌<◌, ◌^◌, ℕ, ◌+◌, ℤ, ◌+ℤ◌, ◌*ℤ◌, nat_abs, max, List, [], ◌∷◌, map, Option, None, Some}
use Rattle.std.specs.List.{AllByRecursion}
use Rattle.cq_values.specs.declared.value.Value.{Value}
use Rattle.cq_model_bags.specs.Bag.{weight_of}
use Rattle.cq_views_model.specs.Kept.{Kept, Counted, Totalled, Listed, Group}
use Rattle.cq_deltas.specs.Extremes.{HasRoom, alone, with_more}
use Rattle.cq_deltas.specs.declared.change.Addend.{Addend}
use Rattle.cq_deltas.specs.declared.change.Addend.TheVariants as added
use Rattle.cq_deltas.specs.declared.group.Group.{Group as StoredGroup}
use Rattle.cq_deltas.specs.declared.kept.Kept.{Kept as Stored}
use Rattle.cq_deltas.specs.declared.kept.Kept.TheVariants as stored
use Rattle.cq_model.specs.Width.{number_limit}

-- what is stored of an aggregate shows so much
abbrev pub seen : Stored → Kept
seen (stored.Counted n) = Counted n
seen (stored.Totalled t) = Totalled t.values t.total
seen (stored.Listed e) = Listed e.values

-- so does a group
abbrev pub seen_group : StoredGroup → Group
seen_group g = record { count = g.count; kept = map seen g.kept.items }

-- with an argument of a row of this weight put in: NULL is not counted
abbrev pub kept_with : ℤ → Option Addend → Kept → Kept
kept_with weight (Some (added.Number v)) (Counted n) = Counted (n +ℤ weight)
kept_with weight (Some (added.Number v)) (Totalled n total) = Totalled (n +ℤ weight) (total +ℤ v *ℤ weight)
kept_with weight (Some (added.Listed v)) (Listed values) = Listed (with_more (alone v) weight values)
kept_with weight addend kept = kept

-- the same of each aggregate in turn
abbrev pub all_kept_with : ℤ → List (Option Addend) → List Kept → List Kept
all_kept_with weight (v ∷ vs) (k ∷ kept) = kept_with weight v k ∷ all_kept_with weight vs kept
all_kept_with weight vs kept = kept

-- a group with a row of this weight put in
abbrev pub group_with : ℤ → List (Option Addend) → Group → Group
group_with weight addends group = record { count = group.count +ℤ weight; kept = all_kept_with weight addends group.kept }

-- how far an argument can move a total
abbrev pub total_move : ℤ → Option Addend → ℕ
total_move weight None = 0
total_move weight (Some (added.Number v)) = nat_abs (v *ℤ weight)
total_move weight (Some (added.Listed v)) = 0

-- how far any argument of a row can
abbrev pub total_moves : ℤ → List (Option Addend) → ℕ
total_moves weight [] = 0
total_moves weight (v ∷ vs) = max (total_move weight v) (total_moves weight vs)

-- a count stays in range while it moves so far, and a total while it does
abbrev pub KeptHolds : ℕ → ℕ → Kept → Type 0
KeptHolds counts totals (Counted n) = nat_abs n + counts < number_limit
KeptHolds counts totals (Totalled n total) = (nat_abs n + counts < number_limit) × (nat_abs total + totals ≤ 2 ^ 250)
KeptHolds counts totals (Listed values) = (v : Value) → nat_abs (weight_of values (alone v)) + counts < number_limit

-- so do all of a group
pub record GroupHolds (counts totals : ℕ) (group : Group) : Type 0 where
  pub count : nat_abs group.count + counts < number_limit
  pub kept : AllByRecursion (KeptHolds counts totals) group.kept

-- a group stays in range with a row of this weight put in
abbrev pub GroupHoldsWith : ℤ → List (Option Addend) → Group → Type 0
GroupHoldsWith weight addends group = GroupHolds (nat_abs weight) (total_moves weight addends) group

-- so does all that is stored of its aggregates
abbrev pub AllHoldWith : ℤ → List (Option Addend) → List Stored → Type 0
AllHoldWith weight addends kept = AllByRecursion (KeptHolds (nat_abs weight) (total_moves weight addends)) (map seen kept)

-- there is room for what an argument adds; counts and totals need none
abbrev pub HasRoomFor : Option Addend → Stored → Type 0
HasRoomFor (Some (added.Listed v)) (stored.Listed e) = HasRoom v e.room
HasRoomFor addend kept = Unit {0}

-- what had room has room
abbrev pub KeepsRoomFor : Stored → Stored → Type 0
KeepsRoomFor old new = (addend : Option Addend) → HasRoomFor addend old → HasRoomFor addend new

-- so it is with each aggregate in turn
abbrev pub HaveRoom : List (Option Addend) → List Stored → Type 0
HaveRoom (v ∷ vs) (k ∷ kept) = HasRoomFor v k × HaveRoom vs kept
HaveRoom vs kept = Unit {0}

-- and where room was, there is room
abbrev pub KeepRoom : List Stored → List Stored → Type 0
KeepRoom old new = (vs : List (Option Addend)) → HaveRoom vs old → HaveRoom vs new
