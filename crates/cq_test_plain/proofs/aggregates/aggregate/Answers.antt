use Rattle.std.proofs.Common.{sym, ap, ◌∙◌}
use Rattle.std.proofs.lemmas.Result.{IfOk-weaker, IfErr-weaker}
use Rattle.cq_model_bags.specs.Bag.{once_each}
use Rattle.cq_model.specs.declared.query.Aggregate.{Aggregate}
use Rattle.cq_model.specs.Group.{aggregate}
use Rattle.cq_model.proofs.ListedValues.{count_all-of}
use Rattle.cq_test_plain.proofs.ListedAggregates.{counted, fits-sum, greatest, least, sum-fits, summed}
use Rattle.cq_test_plain.proofs.Exits.{tells_more}
use Rattle.cq_test_plain.proofs.aggregates.aggregate.Goals as goal

pub returns-in-CountAll-clause-ok : goal.returns-in-CountAll-clause-ok
returns-in-CountAll-clause-ok c = c.count.ensures ∙ count_all-of c.args.rows.now ∙ ap (λ (kind : Aggregate). aggregate kind (once_each c.args.rows.now)) (sym c.in-CountAll.is)

pub returns-in_ok-values_of-in-Count-clause-ok : goal.returns-in_ok-values_of-in-Count-clause-ok
returns-in_ok-values_of-in-Count-clause-ok c =
    c.count-in-Count.ensures ∙ counted c.args.kind.now c.in-Count.expr c.args.rows.now c.deref.result.now (c.deref.ensures.value ∙ c.in_ok-values_of-in-Count.ensures.ok) c.in-Count.is

pub returns-in-CountDistinct-clause-ok : goal.returns-in-CountDistinct-clause-ok
returns-in-CountDistinct-clause-ok c =
    IfOk-weaker c.count_distinct.result _ _ (λ v e. e ∙ ap (λ (kind : Aggregate). aggregate kind (once_each c.args.rows.now)) (sym c.in-CountDistinct.is)) c.count_distinct.ensures.ok

pub returns-in_ok-values_of-in-Sum-clause-ok : goal.returns-in_ok-values_of-in-Sum-clause-ok
returns-in_ok-values_of-in-Sum-clause-ok c =
    IfOk-weaker c.sum.result _ _ (λ v e. e ∙ summed c.args.kind.now c.in-Sum.expr c.args.rows.now c.deref-in-Sum.result.now (c.deref-in-Sum.ensures.value ∙ c.in_ok-values_of-in-Sum.ensures.ok) c.in-Sum.is) c.sum.ensures.ok

pub returns-in_ok-values_of-in-Sum-clause-range : goal.returns-in_ok-values_of-in-Sum-clause-range
returns-in_ok-values_of-in-Sum-clause-range c =
    IfOk-weaker c.sum.result _ _ (λ v fits. sum-fits c.args.kind.now c.in-Sum.expr c.args.rows.now c.deref-in-Sum.result.now (c.deref-in-Sum.ensures.value ∙ c.in_ok-values_of-in-Sum.ensures.ok) c.in-Sum.is fits) c.sum.ensures.range

pub returns-in_ok-values_of-in-Sum-clause-fault : goal.returns-in_ok-values_of-in-Sum-clause-fault
returns-in_ok-values_of-in-Sum-clause-fault c =
    IfErr-weaker c.sum.result _ _
    (λ e told. tells_more absurd (λ outside fits. outside (fits-sum c.args.kind.now c.in-Sum.expr c.args.rows.now c.deref-in-Sum.result.now (c.deref-in-Sum.ensures.value ∙ c.in_ok-values_of-in-Sum.ensures.ok) c.in-Sum.is fits)) e told)
    c.sum.ensures.fault

pub returns-in_ok-extreme-in-Min-clause-ok : goal.returns-in_ok-extreme-in-Min-clause-ok
returns-in_ok-extreme-in-Min-clause-ok c =
    c.in_ok-extreme-in-Min.ensures ∙ least c.args.kind.now c.in-Min.expr c.args.rows.now c.deref-in-Min.result.now (c.deref-in-Min.ensures.value ∙ c.in_ok-values_of-in-Min.ensures.ok) c.in-Min.is

pub returns-in_ok-extreme-in-Max-clause-ok : goal.returns-in_ok-extreme-in-Max-clause-ok
returns-in_ok-extreme-in-Max-clause-ok c =
    c.in_ok-extreme-in-Max.ensures ∙ greatest c.args.kind.now c.in-Max.expr c.args.rows.now c.deref-in-Max.result.now (c.deref-in-Max.ensures.value ∙ c.in_ok-values_of-in-Max.ensures.ok) c.in-Max.is
