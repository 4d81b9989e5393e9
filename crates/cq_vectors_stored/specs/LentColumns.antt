-- Columns whose values are lent: numbers above a base, texts by the codes of their entries, and parts of a run of texts.
use Rattle.std.specs.Prelude.{ℕ, ℤ, pos, ◌+◌, ◌+ℤ◌, ◌<◌, ◌≤◌, ◌≡◌, Bool, true, false, List, [], length, map, take, drop, slice_index_or, FitsSigned}
use Rattle.std.specs.Int.{w64}
use Rattle.std.specs.List.{All}
use Rattle.std.specs.Simd.Lanes.{zip2}
use Rattle.cq_values.specs.declared.value.Value.{Value}
use Rattle.cq_values.specs.declared.value.Value.TheVariants.{Null}
use Rattle.cq_values.specs.Days.{IsDay}
use Rattle.cq_model.specs.Condition.{is_null}
use Rattle.cq_vectors_stored.specs.Columns.{day_unless, number_unless, text_unless}

-- where the flag is set there is nothing
abbrev pub NothingWhere : {A : Type 0} → A → List Bool → List A → Type 0
NothingWhere nothing flags parts = (k : ℕ) → slice_index_or flags k false ≡ true → slice_index_or parts k nothing ≡ nothing

-- a part and a flag for each of these values, at most 1,024, and nothing where NULL stands
pub record KeepsLent {A : Type 0} (nothing : A) (parts : List A) (flags : List Bool) (values : List Value) : Type 0 where
  pub long : length parts ≡ length values
  pub nulls : flags ≡ map is_null values
  pub few : length values ≤ 1024
  pub clear : NothingWhere nothing flags parts

-- the value of a place, and NULL past the end
abbrev pub IsAt : List Value → ℕ → Value → Type 0
IsAt values place value = value ≡ slice_index_or values place Null

-- the number at the offset above the base, or NULL where the flag says so
abbrev pub number_above : ℤ → ℕ → Bool → Value
number_above base offset flag = number_unless (base +ℤ pos offset) flag

-- the numbers at the offsets above the base
abbrev pub numbers_above : ℤ → List ℕ → List Bool → List Value
numbers_above base offsets flags = zip2 (number_above base) offsets flags

-- each number above the base can be kept in 64 bits
abbrev pub FitAbove : ℤ → List ℕ → Type 0
FitAbove base offsets = (k : ℕ) → FitsSigned w64 (base +ℤ pos (slice_index_or offsets k 0))

-- numbers above a base
abbrev pub AreAbove : ℤ → List ℕ → List Bool → Type 0
AreAbove base offsets flags = KeepsLent 0 offsets flags (numbers_above base offsets flags) × FitAbove base offsets

-- the day at the offset above the base, or NULL where the flag says so
abbrev pub day_above : ℤ → ℕ → Bool → Value
day_above base offset flag = day_unless (base +ℤ pos offset) flag

-- the days at the offsets above the base
abbrev pub days_above : ℤ → List ℕ → List Bool → List Value
days_above base offsets flags = zip2 (day_above base) offsets flags

-- each number above the base is that of a day
abbrev pub DaysAbove : ℤ → List ℕ → Type 0
DaysAbove base offsets = (k : ℕ) → IsDay (base +ℤ pos (slice_index_or offsets k 0))

-- days above a base
abbrev pub AreDaysAbove : ℤ → List ℕ → List Bool → Type 0
AreDaysAbove base offsets flags = KeepsLent 0 offsets flags (days_above base offsets flags) × DaysAbove base offsets

-- the entry that the code names, or NULL where the flag says so
abbrev pub entry_unless : List (List ℕ) → ℕ → Bool → Value
entry_unless entries code flag = text_unless (slice_index_or entries code []) flag

-- the entries that the codes name
abbrev pub entries_at : List (List ℕ) → List ℕ → List Bool → List Value
entries_at entries codes flags = zip2 (entry_unless entries) codes flags

-- each code names an entry
abbrev pub AreCodes : List (List ℕ) → List ℕ → Type 0
AreCodes entries codes = All (λ code. code < length entries) codes

-- texts by the codes of their entries
abbrev pub AreEntries : List (List ℕ) → List ℕ → List Bool → Type 0
AreEntries entries codes flags = KeepsLent 0 codes flags (entries_at entries codes flags) × AreCodes entries codes

-- so many of the texts, from one on
abbrev pub part_of : List (List ℕ) → ℕ → ℕ → List (List ℕ)
part_of texts start len = take len (drop start texts)

-- as many of the texts as there are flags, from one on, and NULL where the flag says so
abbrev pub texts_from : List (List ℕ) → ℕ → List Bool → List Value
texts_from texts start flags = zip2 text_unless (part_of texts start (length flags)) flags

-- so many texts stand in the run from there on, which holds at most 65,536
pub record IsPart (texts : List (List ℕ)) (start len : ℕ) : Type 0 where
  pub there : start + len ≤ length texts
  pub few : length texts ≤ 65536

-- texts of a run
abbrev pub AreFrom : List (List ℕ) → ℕ → List Bool → Type 0
AreFrom texts start flags = KeepsLent [] (part_of texts start (length flags)) flags (texts_from texts start flags) × IsPart texts start (length flags)
