use Rattle.std.proofs.Common.{arith, sym, ◌∙◌}
use Rattle.std.proofs.lemmas.Grind.{common_steps}
use Rattle.std.proofs.lemmas.Result.{err_from_is_err_and}
use Rattle.cq_binder_rules.specs.From.{equality_check}
use Rattle.cq_binder_queries.proofs.Faults.{checks_more, one_check, passed, refused_first, refused_same}
use Rattle.cq_binder_queries.proofs.from.equalities.Goals as goal

pub returns-in_err-equality : goal.returns-in_err-equality
returns-in_err-equality c =
    let p = err_from_is_err_and c.from_residual.result c.from_residual.ensures.1 in
    let m = checks_more (equality_check c.args.columns.now c.args.before) c.args.on.now c.loop-each.each-index c.each-item.result c.loop-each-test.true c.each-item.is in
    let e = refused_same _ _ _ (sym (one_check (equality_check c.args.columns.now c.args.before c.each-item.result))) c.in_err-equality.ensures in
    rw (p.1, p.2) (refused_same _ _ _ (sym c.loop-each.invariant.1 ∙ m) (refused_first _ _ _ e))

pub loop-each-preserved : goal.loop-each-preserved
loop-each-preserved c =
    let check = equality_check c.args.columns.now c.args.before in
    let m = checks_more check c.args.on.now c.loop-each.each-index c.each-item.result c.loop-each-test.true c.each-item.is in
    (grind (arith, common_steps), passed _ _ _ _ (sym (one_check (check c.each-item.result)) ∙ c.in_ok-equality.ensures.0) m c.loop-each.invariant.1)
