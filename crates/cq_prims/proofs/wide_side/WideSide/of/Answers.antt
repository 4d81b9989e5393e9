use Rattle.std.proofs.Common.{◌∙◌, ap, false, subst, sym}
use Rattle.cq_vectors.specs.Form.{values_in}
use Rattle.cq_prims.specs.Numbers.{ShowsNumbers}
use Rattle.cq_prims.proofs.Shown.{column_shows}
use Rattle.cq_prims.proofs.wide_side.WideSide.of.Goals as goal

pub returns-in-Wide : goal.returns-in-Wide
returns-in-Wide c =
    let is = sym (ap values_in c.in-Wide.is) ∙ c.form.ensures.values in
    let values = c.values-in-Wide in
    subst (ShowsNumbers false c.column.result) is (column_shows false c.column.result values.result.now c.in-Wide.numbers c.column.ensures values.ensures.values values.ensures.whole)

pub returns-in-Narrow : goal.returns-in-Narrow
returns-in-Narrow c = subst (ShowsNumbers false c.of_narrow.result) (sym (ap values_in c.in-Narrow.is) ∙ c.form.ensures.values) c.of_narrow.ensures

pub returns-in-Some : goal.returns-in-Some
returns-in-Some c =
    subst (ShowsNumbers false c.numbers-in-Some.result) c.in-Some.ensures (column_shows false c.numbers-in-Some.result c.values.result.now c.in-Some.numbers c.numbers-in-Some.ensures c.values.ensures.values c.values.ensures.whole)
