use Rattle.std.proofs.Common.{◌<◌, ◌^◌, List, ap, ◌∙◌, arith, length, map}
use Rattle.std.proofs.lemmas.Result.{IfErr-weaker, IfOk-weaker}
use Rattle.cq_model_bags.specs.Bag.{once_each, projected}
use Rattle.cq_model_bags.proofs.Distincts.{once_each-map}
use Rattle.cq_model.specs.Expr.{Expr}
use Rattle.cq_model.specs.Meaning.{items_of}
use Rattle.cq_test_plain.proofs.Countable.{item_fault}
use Rattle.cq_test_plain.proofs.answering.shown_rows.Goals as goal

pub returns-clause-ok : goal.returns-clause-ok
returns-clause-ok c =
    let items = items_of c.args.query.now.items in
    IfOk-weaker c.shown.result _ _
    (λ results e. ap once_each (e ∙ ap (λ (es : List Expr). map (items_of es) c.deref.result.now) c.as_slice.ensures ∙ ap (map items) c.deref.ensures.value)
    ∙ once_each-map items c.in_ok-shaped.shaped.items ∙ ap (projected items) c.in_ok-shaped.ensures.ok)
    c.shown.ensures.ok

-- an item is too wide in a row that is shown of rows that can be counted, all of whose totals can be shown
pub returns-clause-fault : goal.returns-clause-fault
returns-clause-fault c =
    let rows = c.args.rows.items in
    let few : length rows < 2 ^ 64 = omega (arith, c.args.rows.ok.0, c.args.rows.ok.1, c.args.rows.small) in
    IfErr-weaker c.shown.result _ _
    (item_fault rows few c.args.query.now (once_each c.deref.result.now) (ap once_each c.deref.ensures.value ∙ c.in_ok-shaped.ensures.ok) c.in_ok-shaped.ensures.range)
    (rw c.as_slice.ensures at c.shown.ensures.fault)
