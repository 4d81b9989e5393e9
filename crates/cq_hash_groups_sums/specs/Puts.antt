-- How values are put into the sums of groups, each into the group of its number.
use Rattle.std.specs.Prelude.{ℕ, ℤ, ◌+◌, ◌-◌, ◌*◌, ◌^◌, ◌≤◌, ◌<◌, pos, ◌+ℤ◌, ◌++◌, ◌==◌, nat_abs, if◌then◌else◌, ◌≡◌, Bool, List, [], ◌∷◌, drop, length, replicate, slice_index_or, slice_set}
use Rattle.std.specs.List.{AllByRecursion}
use Rattle.cq_values.specs.declared.value.Value.{Value}
use Rattle.cq_values.specs.declared.value.Value.TheVariants.{Null, Number}
use Rattle.cq_model.specs.Condition.{is_null}
use Rattle.cq_model.specs.Group.{InRange, addend}
use Rattle.cq_model.specs.declared.fault.ShowFault.{ShowFault}
use Rattle.cq_model.specs.declared.fault.ShowFault.TheVariants.{SumOutOfRange}
use Rattle.cq_hash_groups_sums.specs.declared.wide_sums.Sum.{Sum}
use Rattle.cq_hash_groups_sums.specs.NumberColumns.{all_above, with_nulls}

-- the values put into the groups of their numbers, one after the other, where a group that is not there has nothing
abbrev pub put_all : {S : Type 0} → (S → Value → S) → S → List ℕ → List Value → List S → List S
put_all put nothing [] values slots = slots
put_all put nothing (n ∷ numbers) [] slots = slots
put_all put nothing (n ∷ numbers) (v ∷ values) slots =
    put_all put nothing numbers values (slice_set slots n (put (slice_index_or slots n nothing) v))

-- as many as there are groups, where a new group has nothing
abbrev pub grown : {S : Type 0} → S → ℕ → List S → List S
grown nothing groups slots = slots ++ replicate (groups - length slots) nothing

-- so many values with a total
abbrev pub summed : ℕ → ℤ → Sum
summed count total = record { count = count; total = total }

-- the sum of no values
abbrev pub no_sum : Sum
no_sum = summed 0 (pos 0)

-- NULL is not counted and adds nothing
abbrev pub put_sum : Sum → Value → Sum
put_sum sum v = if is_null v then sum else summed (sum.count + 1) (sum.total +ℤ addend v)

-- a sum of at most so many values
pub record IsSumWithin (most : ℕ) (sum : Sum) : Type 0 where
  pub count : sum.count ≤ most
  pub total : nat_abs sum.total ≤ most * 2 ^ 127

-- no group has a sum of more values than this
abbrev pub AreSumsWithin : ℕ → List Sum → Type 0
AreSumsWithin most sums = (group : ℕ) → IsSumWithin most (slice_index_or sums group no_sum)

-- no group has a sum of so many values more than before
abbrev pub SumsGrowBy : ℕ → List Sum → List Sum → Type 0
SumsGrowBy more old new = (n : ℕ) → AreSumsWithin n old → AreSumsWithin (n + more) new

-- the most values that leave 64 bits room to count so many more
abbrev pub most_before : ℕ → ℕ
most_before more = 2 ^ 64 - 1 - more

-- old sums become new ones by the values from one place up to another: those that remain make the same of them
pub record PutFrom (start place : ℕ) (numbers : List ℕ) (values : List Value) (old new : List Sum) : Type 0 where
  pub rest : put_all put_sum no_sum (drop place numbers) (drop place values) new ≡ put_all put_sum no_sum (drop start numbers) (drop start values) old
  pub within : (n : ℕ) → AreSumsWithin (n + start) old → AreSumsWithin (n + place) new
  pub same : length new ≡ length old

-- the same where the values are numbers, and NULL where a flag says so
abbrev pub PutNumbers : ℕ → ℕ → List ℕ → List ℤ → List Bool → List Sum → List Sum → Type 0
PutNumbers start place numbers column nulls old new = PutFrom start place numbers (with_nulls column nulls) old new

-- those of the first places are numbers at offsets above a base
abbrev pub PutsAbove : ℕ → List ℕ → ℤ → List ℕ → List Bool → List Sum → List Sum → Type 0
PutsAbove place numbers base offsets nulls old new = PutNumbers 0 place numbers (all_above base offsets) nulls old new

-- and all from one place on
abbrev pub PutColumn : ℕ → List ℕ → List ℤ → List Bool → List Sum → List Sum → Type 0
PutColumn start numbers column nulls old new = PutNumbers start (length numbers) numbers column nulls old new

-- each number is that of a group
abbrev pub AreNumbers : ℕ → List ℕ → Type 0
AreNumbers groups numbers = AllByRecursion (λ number. number < groups) numbers

-- each is that of this one group
abbrev pub AreOfOne : ℕ → List ℕ → Type 0
AreOfOne group numbers = (place : ℕ) → place < length numbers → slice_index_or numbers place 0 ≡ group

-- a fault is told for a total only where it cannot be shown
abbrev pub IsTotalFault : Sum → ShowFault → Type 0
IsTotalFault sum e = e ≡ SumOutOfRange → InRange sum.total → ⊥

-- the total of values, and NULL of none
abbrev pub shown_sum : Sum → Value
shown_sum sum = if sum.count == 0 then Null else Number sum.total
