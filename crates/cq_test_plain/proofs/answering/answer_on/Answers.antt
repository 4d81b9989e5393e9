use Rattle.std.proofs.Common.{sym, ap, ◌∙◌}
use Rattle.cq_model_bags.specs.Bag.{distinct, firsts, once_each}
use Rattle.cq_model.specs.Meaning.{shown}
use Rattle.cq_test_plain.specs.SourceRows.{lent_bags}
use Rattle.cq_test_plain.proofs.Agreeing.{distinct_meaning}
use Rattle.cq_test_plain.proofs.answering.answer_on.Goals as goal
use Rattle.cq_model_bags.proofs.Once.{distinct-once}

pub returns-in_ok-firsts-clause-ok : goal.returns-in_ok-firsts-clause-ok
returns-in_ok-firsts-clause-ok c =
    let bag = c.in_ok-shown.ensures.ok ∙ ap (shown c.args.query.now) c.in_ok-joined.ensures.ok in
    ap once_each (c.in_ok-firsts.ensures ∙ ap firsts c.deref.ensures.value ∙ sym (distinct-once c.in_ok-shown.shown.items))
    ∙ ap distinct bag ∙ distinct_meaning c.args.query.now (lent_bags c.args.sources.now) c.if-query.true
