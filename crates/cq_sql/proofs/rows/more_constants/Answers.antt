use Rattle.std.proofs.Common.{◌-◌, ◌∷◌, length, arith, refl, sym, ◌∙◌}
use Rattle.std.proofs.lemmas.Result.{err_from_is_err_and}
use Rattle.cq_sql_language.specs.declared.token.Token.TheVariants as signs
use Rattle.cq_sql_language.proofs.Cuts.{onto_last-len}
use Rattle.cq_sql_expressions.proofs.Chains.{runs_out}
use Rattle.cq_sql.specs.Rows.{constant_led, last_row_at}
use Rattle.cq_sql.proofs.ConstantReads.{whole_number_read}
use Rattle.cq_sql.proofs.RowReads.{constant_goes_on, constant_fails, constants_stop}
use Rattle.cq_sql.proofs.rows.more_constants.Goals as goal

pub loop-preserved-in-Some : goal.loop-preserved-in-Some
loop-preserved-in-Some c =
    let len = onto_last-len c.whole_number.result c.loop.rows in
    rw c.in_ok-push.ensures (
      omega (arith, len, c.loop.invariant.0),
      constant_goes_on c.loop.rows (length c.args.tokens.now) c.loop.counter c.loop.rest.now (last_row_at c.args.rows.now c.args.tokens.now) c.loop-test.true c.loop.invariant.1 (signs.Number c.in-Some.n ∷ c.in-Some.after.now) c.in-Some.after.now c.whole_number.result (rw c.in-Some.ensures refl) (rw c.whole_number.ensures (whole_number_read c.in-Some.n c.in-Some.after.now)),
    )

pub returns-in_err-constant-in-Some-after_symbol : goal.returns-in_err-constant-in-Some-after_symbol
returns-in_err-constant-in-Some-after_symbol c =
    let p = err_from_is_err_and c.from_residual-in_err-constant-in-Some-after_symbol.result c.from_residual-in_err-constant-in-Some-after_symbol.ensures.1 in
    rw (p.1, p.2) (constant_fails c.loop.rows (length c.args.tokens.now) c.loop.counter c.loop.rest.now (last_row_at c.args.rows.now c.args.tokens.now) c.loop-test.true c.loop.invariant.1 c.in_err-constant-in-Some-after_symbol.field-0.0 c.in-Some-after_symbol.after.now (sym c.in-Some-after_symbol.ensures) c.in_err-constant-in-Some-after_symbol.ensures)

pub returns-in-None : goal.returns-in-None
returns-in-None c =
    constants_stop c.loop.rows (length c.args.tokens.now) c.loop.counter c.loop.rest.now (last_row_at c.args.rows.now c.args.tokens.now) c.loop-test.true c.loop.invariant.1 (sym c.in-None.ensures)

pub loop-preserved : goal.loop-preserved
loop-preserved c =
    let len = onto_last-len c.in_ok-constant-in-Some-after_symbol.constant c.loop.rows in
    rw c.in_ok-push-in-Some-after_symbol.ensures (
      omega (arith, len, c.loop.invariant.0),
      constant_goes_on c.loop.rows (length c.args.tokens.now) c.loop.counter c.loop.rest.now (last_row_at c.args.rows.now c.args.tokens.now) c.loop-test.true c.loop.invariant.1 c.in-Some-after_symbol.after.now c.in_ok-constant-in-Some-after_symbol.next.now c.in_ok-constant-in-Some-after_symbol.constant (sym c.in-Some-after_symbol.ensures) c.in_ok-constant-in-Some-after_symbol.ensures,
    )

pub returns : goal.returns
returns c = sym c.loop.invariant.1 ∙ runs_out constant_led (length c.args.tokens.now - c.loop.counter) c.loop.rows c.loop.rest.now (omega arith)
