-- Values that are whole numbers alone.
use Rattle.std.specs.Prelude.{◌≡◌, ◌++◌, ◌+ℤ◌, ℕ, ℤ, Vec, List, map, pos}
use Rattle.std.specs.Global.{Global}
use Rattle.cq_values.specs.declared.value.Value.{Value}
use Rattle.cq_values.specs.declared.value.Value.TheVariants.{Number}

-- the values stand behind numbers as numbers
abbrev pub AppendsWhole : List Value → Vec ℤ Global → Vec ℤ Global → Type 0
AppendsWhole values old new = map Number new.items ≡ map Number old.items ++ values

-- the numbers at offsets above a base stand behind numbers
abbrev pub AppendsAbove : ℤ → List ℕ → Vec ℤ Global → Vec ℤ Global → Type 0
AppendsAbove base offsets old new = new.items ≡ old.items ++ map (λ o. base +ℤ pos o) offsets
