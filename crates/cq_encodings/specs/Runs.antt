-- Values as runs of one value each.
use Rattle.std.specs.Prelude.{ℕ, ◌<◌, ◌≡◌, ◌≢◌, List, [], ◌∷◌, length, map, replicate, slice_index_or, ⊤}
use Rattle.std.specs.List.{flat_map}
use Rattle.cq_values.specs.declared.lent.Lent.{Lent}
use Rattle.cq_values.specs.declared.value.Value.{Value}
use Rattle.cq_values.specs.declared.value.Value.TheVariants.{Null}
use Rattle.cq_values.specs.Lent.{owned}
use Rattle.cq_encodings.specs.declared.runs.Run.{Run}

-- a run is its value, so many times
abbrev pub run_values : Run → List Value
run_values run = replicate run.count run.value

-- and runs are those of each, one behind the other
abbrev pub values_of_runs : List Run → List Value
values_of_runs runs = flat_map run_values runs

-- no run is empty, and neighbours have different values
abbrev pub AreRuns : List Run → Type 0
AreRuns [] = ⊤
AreRuns (run ∷ []) = 0 < run.count
AreRuns (run ∷ next ∷ runs) = (0 < run.count) × ((run.value ≢ next.value) × AreRuns (next ∷ runs))

-- the value of a place among lent ones
abbrev pub value_in : List Lent → ℕ → Value
value_in values place = slice_index_or (map owned values) place Null

-- each of the values is this one
abbrev pub IsConstant : Value → List Value → Type 0
IsConstant value values = values ≡ replicate (length values) value
