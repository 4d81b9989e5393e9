-- Sums of the numbers at selected places.
use Rattle.std.specs.Prelude.{ℕ, ℤ, pos, ◌+ℤ◌, List, fold, slice_index_or}
use Rattle.cq_values.specs.declared.value.Value.{Value}
use Rattle.cq_values.specs.declared.value.Value.TheVariants.{Null}
use Rattle.cq_model.specs.Group.{addend}

-- the sum of the numbers at the places
abbrev pub sum_at : List ℤ → List ℕ → ℤ
sum_at numbers places = fold (λ sum place. sum +ℤ slice_index_or numbers place (pos 0)) (pos 0) places

-- the sum of the values at the places, of which NULL adds nothing
abbrev pub sum_of : List Value → List ℕ → ℤ
sum_of values places = fold (λ sum place. sum +ℤ addend (slice_index_or values place Null)) (pos 0) places
