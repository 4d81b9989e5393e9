-- The sides of a comparison of two vectors.
use Rattle.std.specs.Prelude.{false, true, List}
use Rattle.cq_values.specs.declared.value.Value.{Value}
use Rattle.cq_prims.specs.Numbers.{ShowsNumbers}
use Rattle.cq_prims_texts.specs.Kinds.{ShowsTexts}
use Rattle.cq_prims.specs.declared.sides.Sides.{Sides}
use Rattle.cq_prims.specs.declared.sides.Sides.TheVariants as sides

-- each side shows the values of its vector
abbrev pub AreSidesOf : Sides → List Value → List Value → Type 0
AreSidesOf (sides.Numbers a b) vs ws = ShowsNumbers false a vs × ShowsNumbers false b ws
AreSidesOf (sides.Days a b) vs ws = ShowsNumbers true a vs × ShowsNumbers true b ws
AreSidesOf (sides.Texts a b) vs ws = ShowsTexts a vs × ShowsTexts b ws
AreSidesOf (sides.Wide a b) vs ws = ShowsNumbers false a vs × ShowsNumbers false b ws
AreSidesOf (sides.WideDays a b) vs ws = ShowsNumbers true a vs × ShowsNumbers true b ws
AreSidesOf sides.Mixed vs ws = Unit {0}
