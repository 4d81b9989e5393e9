use Rattle.std.proofs.Common.{◌∙◌, ap, subst, sym, true}
use Rattle.cq_vectors.specs.Form.{values_in}
use Rattle.cq_prims.specs.Numbers.{ShowsNumbers}
use Rattle.cq_prims.proofs.Shown.{column_shows}
use Rattle.cq_prims.proofs.wide_side.WideSide.of_days.Goals as goal

pub returns-in-NarrowDays : goal.returns-in-NarrowDays
returns-in-NarrowDays c = subst (ShowsNumbers true c.of_narrow_days.result) (sym (ap values_in c.in-NarrowDays.is) ∙ c.form.ensures.values) c.of_narrow_days.ensures

pub returns-in-Some : goal.returns-in-Some
returns-in-Some c =
    subst (ShowsNumbers true c.days-in-Some.result) c.in-Some.ensures (column_shows true c.days-in-Some.result c.values.result.now c.in-Some.days c.days-in-Some.ensures c.values.ensures.values c.values.ensures.whole)
