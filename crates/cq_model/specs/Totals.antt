-- The exact total of listed values.
use Rattle.std.specs.Prelude.{ℤ, pos, ◌+ℤ◌, List, [], ◌∷◌}
use Rattle.cq_values.specs.declared.value.Value.{Value}
use Rattle.cq_values.specs.declared.value.Value.TheVariants.{Null, Number}
use Rattle.cq_model.specs.Group.{addend}

-- what the values add to a sum together
abbrev pub total_of : List Value → ℤ
total_of [] = pos 0
total_of (v ∷ vs) = addend v +ℤ total_of vs

-- the total of values as one value, and NULL of none
abbrev pub shown_total : List Value → Value
shown_total [] = Null
shown_total (v ∷ vs) = Number (total_of (v ∷ vs))
