use Rattle.std.proofs.Common.{subst, true}
use Rattle.cq_prims.specs.Numbers.{ShowsNumbers}
use Rattle.cq_prims.proofs.Shown.{column_shows}
use Rattle.cq_prims.proofs.day_side.DaySide.of.Goals as goal

pub returns-in-Some : goal.returns-in-Some
returns-in-Some c =
    subst (ShowsNumbers true c.column.result) c.in-Some.ensures (column_shows true c.column.result c.values.result.now c.in-Some.days c.column.ensures c.values.ensures.values c.values.ensures.whole)
