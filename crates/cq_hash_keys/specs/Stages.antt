-- Keys of several columns: a stage for each column behind the first.
use Rattle.std.specs.Prelude.{⊤, ◌⊎◌, ◌≡◌, ◌<◌, ℕ, List, [], ◌∷◌, ◌++◌, Option, fold, length, map}
use Rattle.std.specs.Borrow.{Bor}
use Rattle.std.specs.Global.{Vec}
use Rattle.std.specs.List.{AllByRecursion, IsDistinct, zip}
use Rattle.cq_values.specs.declared.value.Value.{Value}
use Rattle.cq_values.specs.declared.value.Value.TheVariants.{Null}
use Rattle.cq_values.specs.Order.{same_row}
use Rattle.cq_values.specs.Value.{Row, column}
use Rattle.cq_hash_keys.specs.declared.stage.Stage.{Stage}
use Rattle.cq_hash_keys.specs.Grid.{same_pair}
use Rattle.cq_hash_keys.specs.Keys.{key_at, places_of, values_of}
use Rattle.cq_hash_keys_values.specs.Met.{AreNumbersOf, TakesFront, with_new}
use Rattle.cq_hash_keys.specs.Pairs.{place_of_both}
use Rattle.cq_hash_keys_values.specs.Values.{place_in, same_value}

-- the key of each value alone
abbrev pub singles : List Value → List Row
singles values = map (λ value. value ∷ []) values

-- the key of the first number, and behind it the value of the second
abbrev pub joined : List Row → List Value → ℕ × ℕ → Row
joined keys values pair = key_at keys pair.0 ++ column values pair.1 ∷ []

-- the keys with one column more
abbrev pub longer : List Row → Stage → List Row
longer keys stage = map (joined keys stage.values) stage.pairs

-- the keys with a column more for each stage
abbrev pub longest : List Row → List Stage → List Row
longest keys stages = fold longer keys stages

-- each row with a value behind it
abbrev pub behind : List Row → List Value → List Row
behind rows values = map (λ next. next.0 ++ next.1 ∷ []) (zip rows values)

-- each row with a value of each column behind it
abbrev pub rows_with : List Row → List (List Value) → List Row
rows_with rows columns = fold behind rows columns

-- both numbers are those of something
abbrev pub IsWithinBoth : ℕ → ℕ → ℕ × ℕ → Type 0
IsWithinBoth firsts seconds pair = (pair.0 < firsts) × (pair.1 < seconds)

-- a stage for these keys: its values, and the keys that it makes, are there once each
pub record IsStage (keys : List Row) (stage : Stage) : Type 0 where
  pub values : IsDistinct same_value stage.values
  pub within : AllByRecursion (IsWithinBoth (length keys) (length stage.values)) stage.pairs
  pub once : IsDistinct same_row (longer keys stage)

-- the key at each place of a first column and of others that are lent
abbrev pub rows_on : List Value → List (Bor (List Value)) → List Row
rows_on first others = rows_with (singles first) (values_of others)

-- the numbers are those of the keys at the places of a first column and of others
abbrev pub AreNumbersOn : List Row → List Value → List (Bor (List Value)) → List ℕ → Type 0
AreNumbersOn keys first others numbers = AreNumbersOf [] keys (rows_on first others) numbers

-- each stage goes on from the keys of those before it
abbrev pub AreStages : List Row → List Stage → Type 0
AreStages keys [] = ⊤
AreStages keys (stage ∷ stages) = IsStage keys stage × AreStages (longer keys stage) stages

-- a stage took in a column, or a front of it, of keys that have these numbers without it
pub record AddsPart (old : Stage) (values : List Value) (firsts : List ℕ) (new : Stage) : Type 0 where
  pub seconds : List ℕ
  pub values_more : TakesFront same_value old.values values new.values
  pub within : AllByRecursion (λ number. number < length new.values) seconds
  pub pairs_more : TakesFront same_pair old.pairs (zip firsts seconds) new.pairs

-- it took in all of it, and these are the keys' numbers with it
pub record AddsColumn (old : Stage) (values : List Value) (firsts : List ℕ) (new : Stage) (numbers : List ℕ) : Type 0 where
  pub seconds : List ℕ
  pub values_more : new.values ≡ with_new same_value old.values values
  pub values_named : AreNumbersOf Null new.values values seconds
  pub pairs_more : new.pairs ≡ with_new same_pair old.pairs (zip firsts seconds)
  pub pairs_named : AreNumbersOf (0, 0) new.pairs (zip firsts seconds) numbers

-- new has what is new of the rows, which have these numbers
pub record Adds (old new rows : List Row) (numbers : List ℕ) : Type 0 where
  pub made : new ≡ with_new same_row old rows
  pub told : AreNumbersOf [] new rows numbers

-- stages that go on from keys, to which rows were added
pub record StartsFrom (keys more rows : List Row) (stages : List Stage) (numbers : List ℕ) : Type 0 where
  pub once : IsDistinct same_row keys
  pub are : AreStages keys stages
  pub adds : Adds keys more rows numbers

-- the stages took in columns: whatever they go on from, its rows are added with the columns behind
abbrev pub GoesOn : List Stage → List (List Value) → List ℕ → List Stage → List ℕ → Type 0
GoesOn old columns firsts new numbers =
    (keys more rows : List Row) → StartsFrom keys more rows old firsts → Adds (longest keys old) (longest more new) (rows_with rows columns) numbers

-- so it is with columns that are lent
abbrev pub GoesOnIn : List Stage → List (Bor (List Value)) → Vec ℕ → List Stage → Vec ℕ → Type 0
GoesOnIn old columns firsts new numbers = GoesOn old (values_of columns) firsts.items new numbers.items

-- what is left are stages for what they go on from
abbrev pub StaysStages : List Stage → List ℕ → List Stage → Type 0
StaysStages old firsts new = (keys more rows : List Row) → StartsFrom keys more rows old firsts → AreStages more new

-- the number of a key that goes on from one with a value
abbrev pub found_further : Stage → Option ℕ × Value → Option ℕ
found_further stage next = place_of_both stage.pairs (next.0, place_in stage.values next.1)

-- the numbers of keys that go on from these with these values
abbrev pub found_behind : Stage → List (Option ℕ) → List Value → List (Option ℕ)
found_behind stage firsts values = map (found_further stage) (zip firsts values)

-- the rows are looked up with the columns behind, whatever the stages go on from
abbrev pub FindsOn : List Stage → List (List Value) → List (Option ℕ) → List (Option ℕ) → Type 0
FindsOn stages columns firsts numbers =
    (keys rows : List Row) → IsDistinct same_row keys → AreStages keys stages → firsts ≡ places_of keys rows
    → numbers ≡ places_of (longest keys stages) (rows_with rows columns)

-- so it is with columns that are lent
abbrev pub FindsOnIn : List Stage → List (Bor (List Value)) → Vec (Option ℕ) → Vec (Option ℕ) → Type 0
FindsOnIn stages columns firsts numbers = FindsOn stages (values_of columns) firsts.items numbers.items

-- nothing is in it
pub record IsFresh (stage : Stage) : Type 0 where
  pub values : stage.values ≡ []
  pub pairs : stage.pairs ≡ []

-- there are so many stages now: those that there were, or new ones
abbrev pub Readies : ℕ → List Stage → List Stage → Type 0
Readies count old new = ((length old ≡ count) × (new ≡ old)) ⊎ ((length old ≡ count → ⊥) × (length new ≡ count) × AllByRecursion IsFresh new)
