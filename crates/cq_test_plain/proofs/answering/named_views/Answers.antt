use Rattle.std.proofs.Common.{List, [], ◌∷◌, ◌++◌, ◌+◌, subst, sym, ap, ◌∙◌}
use Rattle.std.proofs.lemmas.Result.{err_from_is_err_and}
use Rattle.cq_values.specs.Value.{Row}
use Rattle.cq_model.specs.Meaning.{Tables}
use Rattle.cq_test_plain.specs.FaultsOf.{IsNamedFault}
use Rattle.cq_test_plain.specs.Named.{IsNamedInRange, MakeUpNamed}
use Rattle.cq_test_plain.proofs.Agreeing.{AreStored, none-stored, next-stored, sources-shown, sources-stored, view_fails}
use Rattle.cq_test_plain.proofs.Lents.{bags-alone_lent}
use Rattle.cq_test_plain.proofs.answering.named_views.Goals as goal

pub loop-at-init : goal.loop-at-init
loop-at-init c =
    subst (λ (views : List (List Row)). AreStored c.args.database.now.tables c.args.database.now.views c.args.query.now views 0) (sym c.new-views.ensures.items)
    (none-stored c.args.database.now.tables c.args.database.now.views c.args.query.now)

pub loop-at-preserved : goal.loop-at-preserved
loop-at-preserved c =
    let alone = bags-alone_lent c.args.database.now.tables _ _ _ c.as_slice.ensures c.in_ok-tables.ensures c.deref.ensures.value in
    let q = c.args.query.now in
    let bag = subst (λ (tables : Tables). MakeUpNamed q c.loop-at.at c.view-item.result tables c.in_ok-rows.rows) alone c.in_ok-rows.ensures.ok in
    let range = subst (IsNamedInRange q c.loop-at.at c.view-item.result) alone c.in_ok-rows.ensures.range in
    let below = rw c.as_slice-view-items.ensures at c.loop-at-test.true in
    let is = rw c.as_slice-view-items.ensures at c.view-item.is in
    subst (λ (views : List (List Row)). AreStored c.args.database.now.tables c.args.database.now.views c.args.query.now views (c.loop-at.at + 1))
    (sym (c.in_ok-push.ensures.items ∙ ap (λ (rows : List Row). c.loop-at.views.items ++ rows ∷ []) c.from_vec.ensures))
    (next-stored c.args.database.now.tables c.args.database.now.views c.args.query.now c.loop-at.views.items c.loop-at.at c.view-item.result c.in_ok-rows.rows.items below is bag range c.loop-at.invariant)

pub returns-clause-ok : goal.returns-clause-ok
returns-clause-ok c =
    sources-stored c.args.database.now.tables c.args.database.now.views c.args.query.now c.loop-at.views.items c.loop-at.at (rw c.as_slice-view-items.ensures at c.loop-at-test.false) c.loop-at.invariant

pub returns-clause-range : goal.returns-clause-range
returns-clause-range c =
    sources-shown c.args.database.now.tables c.args.database.now.views c.args.query.now c.loop-at.views.items c.loop-at.at (rw c.as_slice-view-items.ensures at c.loop-at-test.false) c.loop-at.invariant

pub returns-in_err-rows-clause-fault : goal.returns-in_err-rows-clause-fault
returns-in_err-rows-clause-fault c =
    let p = err_from_is_err_and c.from_residual-in_err-rows.result c.from_residual-in_err-rows.ensures.1 in
    let below = rw c.as_slice-view-items.ensures at c.loop-at-test.true in
    let is = rw c.as_slice-view-items.ensures at c.view-item.is in
    let alone = bags-alone_lent c.args.database.now.tables _ _ _ c.as_slice.ensures c.in_ok-tables.ensures c.deref.ensures.value in
    let told = subst (λ (tables : Tables). IsNamedFault c.args.query.now c.loop-at.at c.view-item.result tables c.in_err-rows.field-0.0) alone c.in_err-rows.ensures.fault in
    rw (p.1, p.2) (view_fails c.args.database.now.tables c.args.database.now.views c.args.query.now c.loop-at.at c.view-item.result below is c.in_err-rows.field-0.0 told)
