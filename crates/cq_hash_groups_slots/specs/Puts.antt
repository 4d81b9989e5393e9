-- How values of groups are counted, and the best of them kept, each in the group of its number.
use Rattle.std.specs.Prelude.{ℕ, ℤ, ◌+◌, ◌≤◌, ◌<◌, if◌then◌else◌, ◌≡◌, Bool, false, List, length, map, slice_index_or}
use Rattle.cq_values.specs.declared.value.Value.{Value}
use Rattle.cq_values.specs.declared.value.Value.TheVariants.{Null}
use Rattle.cq_model.specs.Condition.{is_null}
use Rattle.cq_model.specs.Group.{lower, higher}
use Rattle.cq_hash_groups_sums.specs.NumberColumns.{with_nulls}
use Rattle.cq_hash_groups_sums.specs.Puts.{put_all}
use Rattle.cq_hash_groups_slots.specs.declared.bests.Extreme.{Extreme}
use Rattle.cq_hash_groups_slots.specs.declared.bests.Extreme.TheVariants.{Least, Greatest}

-- none of the values is NULL
abbrev pub AreKnown : List Value → Type 0
AreKnown values = (place : ℕ) → place < length values → is_null (slice_index_or values place Null) ≡ false

-- NULL is not counted
abbrev pub put_count : ℕ → Value → ℕ
put_count count v = if is_null v then count else count + 1

-- NULL alone is counted
abbrev pub put_null : ℕ → Value → ℕ
put_null count v = if is_null v then count + 1 else count

-- values other than NULL are counted, whichever they are
abbrev pub CountsEach : List ℕ → List ℕ → List ℕ → Type 0
CountsEach numbers old new =
    (values : List Value) → AreKnown values → length numbers ≡ length values → new ≡ put_all put_count 0 numbers values old

-- the values that the flags do not tell to be NULL are counted
abbrev pub CountsKnown : List ℕ → List Bool → List ℕ → List ℕ → Type 0
CountsKnown numbers nulls old new =
    (values : List Value) → nulls ≡ map is_null values → new ≡ put_all put_count 0 numbers values old

-- the better one of two values
abbrev pub best_of : Extreme → Value → Value → Value
best_of Least v w = lower v w
best_of Greatest v w = higher v w

-- the best so far and one value more: NULL is no value
abbrev pub put_best : Extreme → Value → Value → Value
put_best which best v = if is_null v then best else (if is_null best then v else best_of which best v)

-- the second of two values is told to be the better one where it is
abbrev pub IsSecondBetter : Extreme → Value → Value → Bool → Type 0
IsSecondBetter which v w second = best_of which v w ≡ (if second then w else v)

-- a value is told to be taken where it is better than the best so far
abbrev pub IsTaken : Extreme → Value → Value → Bool → Type 0
IsTaken which best v taken = put_best which best v ≡ (if taken then v else best)

-- the best so far become those with the values put in
abbrev pub PutsBests : Extreme → List ℕ → List Value → List Value → List Value → Type 0
PutsBests which numbers values old new = new ≡ put_all (put_best which) Null numbers values old

-- the same where the values are numbers, and NULL where a flag says so
abbrev pub PutsNumbers : Extreme → List ℕ → List ℤ → List Bool → List Value → List Value → Type 0
PutsNumbers which numbers column nulls old new = PutsBests which numbers (with_nulls column nulls) old new

-- no group has more values than this
abbrev pub AreCountsWithin : ℕ → List ℕ → Type 0
AreCountsWithin most counts = (group : ℕ) → slice_index_or counts group 0 ≤ most
