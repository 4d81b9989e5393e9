-- What a table of keys keeps, and the keys that it stands for.
use Rattle.std.specs.Prelude.{◌≡◌, ◌⊎◌, ◌+◌, ℕ, Bool, nat_eq, List, [], ◌∷◌, if◌then◌else◌, length}
use Rattle.std.specs.List.{IsDistinct}
use Rattle.cq_values.specs.declared.value.Value.{Value}
use Rattle.cq_values.specs.Order.{same_row}
use Rattle.cq_values.specs.Value.{Row}
use Rattle.cq_hash_keys.specs.declared.stage.Stage.{Stage}
use Rattle.cq_hash_keys.specs.Stages.{AreStages, longest, singles}

-- the keys: those of the first column's values, with a column more for each stage
abbrev pub keys_in : ℕ → Bool → List Value → List Stage → List Row
keys_in width is_met first stages = if nat_eq width 0 then (if is_met then [] ∷ [] else []) else longest (singles first) stages

-- the values of the first column are there once each, and the stages go on from them, unless they are not made yet
pub record IsKeyTable (width : ℕ) (first : List Value) (stages : List Stage) : Type 0 where
  pub once : IsDistinct same_row (singles first)
  pub are : AreStages (singles first) stages
  pub ready : (length stages + 1 ≡ width) ⊎ (first ≡ [])
