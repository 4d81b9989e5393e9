use Rattle.std.proofs.Common.{false, subst}
use Rattle.cq_prims.specs.Numbers.{ShowsNumbers}
use Rattle.cq_prims.proofs.Shown.{column_shows}
use Rattle.cq_prims.proofs.number_side.NumberSide.of.Goals as goal

pub returns-in-Some : goal.returns-in-Some
returns-in-Some c =
    subst (ShowsNumbers false c.column.result) c.in-Some.ensures (column_shows false c.column.result c.values.result.now c.in-Some.numbers c.column.ensures c.values.ensures.values c.values.ensures.whole)
