use Rattle.std.proofs.Common.{sym, ap, subst, ◌∙◌, inl}
use Rattle.std.proofs.lemmas.Result.{IfOk-weaker, IfErr-weaker}
use Rattle.cq_model_bags.specs.Bag.{once_each}
use Rattle.cq_model.specs.Meaning.{MeaningInRange, meaning}
use Rattle.cq_model.specs.Views.{with_views}
use Rattle.cq_test_plain.specs.Stored.{query_at, rows_at, stored_bags}
use Rattle.cq_test_plain.specs.Wide.{IsQueryWide}
use Rattle.cq_test_plain.proofs.Agreeing.{meaning-agrees, range-agrees, range-back, wide-agrees}
use Rattle.cq_test_plain.proofs.Exits.{tells_more}
use Rattle.cq_test_plain.proofs.Lents.{bags-lent}
use Rattle.cq_test_plain.proofs.answering.answer.Goals as goal
use Rattle.cq_model_bags.proofs.Bags.{same-equal}

pub returns-clause-same_bag : goal.returns-clause-same_bag
returns-clause-same_bag c =
    let whole = with_views (rows_at c.args.database.now.tables) (query_at c.args.database.now.views) in
    let stored = bags-lent c.args.database.now.tables c.in_ok-views.views.items _ _ _ _ c.as_slice.ensures c.deref.ensures.value c.in_ok-sources.ensures c.deref-2.ensures.value in
    IfOk-weaker c.answer_on.result _ _
    (λ rows e. same-equal (once_each rows.items) (meaning c.args.query.now whole)
    (e ∙ ap (meaning c.args.query.now) stored ∙ meaning-agrees c.args.query.now (stored_bags c.args.database.now.tables c.in_ok-views.views.items) whole c.in_ok-views.ensures.ok))
    c.answer_on.ensures.ok

pub returns-clause-range : goal.returns-clause-range
returns-clause-range c =
    let whole = with_views (rows_at c.args.database.now.tables) (query_at c.args.database.now.views) in
    let stored = bags-lent c.args.database.now.tables c.in_ok-views.views.items _ _ _ _ c.as_slice.ensures c.deref.ensures.value c.in_ok-sources.ensures c.deref-2.ensures.value in
    IfOk-weaker c.answer_on.result _ _
    (λ rows r. record {
      own = range-agrees c.args.query.now (stored_bags c.args.database.now.tables c.in_ok-views.views.items) whole c.in_ok-views.ensures.ok (subst (MeaningInRange c.args.query.now) stored r);
      named = c.in_ok-views.ensures.range;
    })
    c.answer_on.ensures.range

pub returns-clause-fault : goal.returns-clause-fault
returns-clause-fault c =
    let whole = with_views (rows_at c.args.database.now.tables) (query_at c.args.database.now.views) in
    let stored = bags-lent c.args.database.now.tables c.in_ok-views.views.items _ _ _ _ c.as_slice.ensures c.deref.ensures.value c.in_ok-sources.ensures c.deref-2.ensures.value in
    IfErr-weaker c.answer_on.result _ _
    (λ e t. tells_more (λ wide. inl (wide-agrees c.args.query.now (stored_bags c.args.database.now.tables c.in_ok-views.views.items) whole c.in_ok-views.ensures.ok (subst (IsQueryWide c.args.query.now) stored wide)))
    (λ outside all. outside (subst (MeaningInRange c.args.query.now) (sym stored) (range-back c.args.query.now (stored_bags c.args.database.now.tables c.in_ok-views.views.items) whole c.in_ok-views.ensures.ok all.own))) e t)
    c.answer_on.ensures.fault
