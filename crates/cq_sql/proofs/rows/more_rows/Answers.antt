use Rattle.std.proofs.Common.{◌-◌, length, arith, sym, ◌∙◌}
use Rattle.std.proofs.lemmas.Result.{err_from_is_err_and}
use Rattle.cq_sql_expressions.specs.declared.leads.Lead.TheVariants as leads
use Rattle.cq_sql_expressions.specs.Lists.{after_lead, led}
use Rattle.cq_sql_expressions.proofs.Chains.{runs_out}
use Rattle.cq_sql_expressions.proofs.Turns.{entries_stop}
use Rattle.cq_sql.specs.Parts.{row_at}
use Rattle.cq_sql.specs.Rows.{more_rows_at}
use Rattle.cq_sql.proofs.RowReads.{row_goes_on, row_fails}
use Rattle.cq_sql.proofs.rows.more_rows.Goals as goal

pub returns-in_err-rest-in-Some : goal.returns-in_err-rest-in-Some
returns-in_err-rest-in-Some c =
    let p = err_from_is_err_and c.from_residual.result c.from_residual.ensures.1 in
    rw (p.1, p.2) (row_fails c.loop.rows (length c.args.tokens.now) c.loop.counter c.loop.rest.now (more_rows_at c.args.rows.now c.args.tokens.now) c.loop-test.true c.loop.invariant c.in-Some.after.now (sym c.in-Some.ensures) c.in_err-rest-in-Some.field-0.0 c.in_err-rest-in-Some.ensures)

pub returns-in-None : goal.returns-in-None
returns-in-None c =
    entries_stop (after_lead leads.Comma) row_at c.loop.rows (length c.args.tokens.now) c.loop.counter c.loop.rest.now (more_rows_at c.args.rows.now c.args.tokens.now) c.loop-test.true c.loop.invariant (sym c.in-None.ensures)

pub loop-preserved : goal.loop-preserved
loop-preserved c =
    row_goes_on c.loop.rows (length c.args.tokens.now) c.loop.counter c.loop.rest.now (more_rows_at c.args.rows.now c.args.tokens.now) c.loop-test.true c.loop.invariant c.in-Some.after.now (sym c.in-Some.ensures) c.read_row.new.rows c.in_ok-rest-in-Some.rest.now c.in_ok-rest-in-Some.ensures

pub returns : goal.returns
returns c = sym c.loop.invariant ∙ runs_out (led leads.Comma row_at) (length c.args.tokens.now - c.loop.counter) c.loop.rows c.loop.rest.now (omega arith)
