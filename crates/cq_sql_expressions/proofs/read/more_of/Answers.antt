use Rattle.std.proofs.Common.{◌-◌, length, arith, sym, ◌∙◌}
use Rattle.std.proofs.lemmas.Result.{err_from_is_err_and}
use Rattle.cq_sql_expressions.specs.Lists.{after_lead, led, more_at}
use Rattle.cq_sql_expressions.proofs.Chains.{runs_out}
use Rattle.cq_sql_expressions.proofs.Turns.{entry_goes_on, entry_fails, entries_stop}
use Rattle.cq_sql_expressions.proofs.read.more_of.Goals as goal

pub returns-in_err-item-in-Some : goal.returns-in_err-item-in-Some
returns-in_err-item-in-Some g c =
    let p = err_from_is_err_and c.from_residual.result c.from_residual.ensures.1 in
    rw (p.1, p.2) (entry_fails (after_lead c.args.lead) g.T.Readable.reads c.loop.items (length c.args.tokens.now) c.loop.counter c.loop.rest.now (more_at c.args.lead g.T.Readable.reads c.args.before c.args.tokens.now) c.loop-test.true c.loop.invariant c.in_err-item-in-Some.field-0.0 c.in-Some.after.now (sym c.in-Some.ensures) c.in_err-item-in-Some.ensures)

pub returns-in-None : goal.returns-in-None
returns-in-None g c =
    entries_stop (after_lead c.args.lead) g.T.Readable.reads c.loop.items (length c.args.tokens.now) c.loop.counter c.loop.rest.now (more_at c.args.lead g.T.Readable.reads c.args.before c.args.tokens.now) c.loop-test.true c.loop.invariant (sym c.in-None.ensures)

pub loop-preserved : goal.loop-preserved
loop-preserved g c =
    rw c.in_ok-push-in-Some.ensures.ok (entry_goes_on (after_lead c.args.lead) g.T.Readable.reads c.loop.items (length c.args.tokens.now) c.loop.counter c.loop.rest.now (more_at c.args.lead g.T.Readable.reads c.args.before c.args.tokens.now) c.loop-test.true c.loop.invariant c.in-Some.after.now c.in_ok-item-in-Some.next.now c.in_ok-item-in-Some.item (sym c.in-Some.ensures) c.in_ok-item-in-Some.ensures)

pub returns : goal.returns
returns g c = sym c.loop.invariant ∙ runs_out (led c.args.lead g.T.Readable.reads) (length c.args.tokens.now - c.loop.counter) c.loop.items c.loop.rest.now (omega arith)
