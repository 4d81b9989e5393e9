use Rattle.std.proofs.Common.{◌<◌, ◌^◌, sym, ap, ◌∙◌, arith, filter, length}
use Rattle.std.proofs.lemmas.Result.{IfErr-weaker, IfOk-weaker}
use Rattle.cq_model_bags.specs.Bag.{filtered, once_each}
use Rattle.cq_model_bags.proofs.Distincts.{once_each-filter}
use Rattle.cq_model.specs.declared.query.Shape.{Shape}
use Rattle.cq_model.specs.Meaning.{keeps, shaped}
use Rattle.cq_test_plain.proofs.Countable.{having_fault}
use Rattle.cq_test_plain.proofs.answering.shaped.Goals as goal

pub returns-in_ok-groups-in-Grouped-clause-ok : goal.returns-in_ok-groups-in-Grouped-clause-ok
returns-in_ok-groups-in-Grouped-clause-ok c =
    let having = keeps c.in-Grouped.having in
    let groups = rw (c.as_slice.ensures, c.deref.ensures.value) at c.in_ok-groups-in-Grouped.ensures.ok in
    IfOk-weaker c.filtered.result _ _
    (λ all e. ap once_each (e ∙ ap (filter having) c.deref-in-Grouped.ensures.value) ∙ once_each-filter having c.in_ok-groups-in-Grouped.groups.items
    ∙ ap (filtered having) groups ∙ ap (λ (shape : Shape). shaped shape (once_each c.args.rows.items)) (sym c.in-Grouped.is))
    c.filtered.ensures.ok

-- HAVING is too wide in a group of rows that can be counted, all of whose totals can be shown
pub returns-in_ok-groups-in-Grouped-clause-fault : goal.returns-in_ok-groups-in-Grouped-clause-fault
returns-in_ok-groups-in-Grouped-clause-fault c =
    let rows = c.args.rows.items in
    let few : length rows < 2 ^ 64 = omega (arith, c.args.rows.ok.0, c.args.rows.ok.1, c.args.rows.small) in
    let groups = rw (c.as_slice.ensures, c.deref.ensures.value) at c.in_ok-groups-in-Grouped.ensures.ok in
    let range = rw (c.as_slice.ensures, c.deref.ensures.value) at c.in_ok-groups-in-Grouped.ensures.range in
    IfErr-weaker c.filtered.result _ _
    (having_fault rows few c.args.shape.now c.in-Grouped.keys c.in-Grouped.aggregates c.in-Grouped.having (once_each c.deref-in-Grouped.result.now) c.in-Grouped.is
    (ap once_each c.deref-in-Grouped.ensures.value ∙ groups) range)
    c.filtered.ensures.fault
