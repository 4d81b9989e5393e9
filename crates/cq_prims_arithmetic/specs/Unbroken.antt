-- Numbers of a vector without NULLs.
use Rattle.std.specs.Prelude.{List, map, replicate, ◌≡◌}
use Rattle.cq_values.specs.declared.value.Value.{Value}
use Rattle.cq_values.specs.declared.value.Value.TheVariants.{Number}
use Rattle.cq_prims_arithmetic.specs.declared.unbroken.Unbroken.{Unbroken}
use Rattle.cq_prims_arithmetic.specs.declared.unbroken.Unbroken.TheVariants as unbroken

-- the values are these numbers, if any are given
abbrev pub AreHeld : Unbroken → List Value → Type 0
AreHeld (unbroken.Numbers numbers) values = values ≡ map Number numbers.now
AreHeld (unbroken.Wide numbers) values = values ≡ map Number numbers.now
AreHeld (unbroken.One number len) values = values ≡ map Number (replicate len number)
AreHeld unbroken.Broken values = Unit {0}
