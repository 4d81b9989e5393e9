use Rattle.std.proofs.Common.{◌∙◌, rules, sym}
use Rattle.std.proofs.lemmas.Result.{err_from_is_err_and}
use Rattle.cq_sql_tokens.proofs.Cuts.{skips, takes, takes_spaced, is_done, stops, gap_shrinks, token_shrinks, signed_shrinks, spaced_shrinks}
use Rattle.cq_sql_tokens.proofs.reading.tokens.Goals as goal

-- a number, and the sign behind it

pub loop-rest-smaller-in-Some-lone_sign_at : goal.loop-rest-smaller-in-Some-lone_sign_at
loop-rest-smaller-in-Some-lone_sign_at c = signed_shrinks _ _ _ c.in-Some.ensures.gap c.in-Some.ensures.token _ _ _ c.in-Some-lone_sign_at.ensures.gap c.in-Some-lone_sign_at.ensures.token c.in-Some-lone_sign_at.ensures.rest

pub loop-rest-preserved-in-Some-lone_sign_at : goal.loop-rest-preserved-in-Some-lone_sign_at
loop-rest-preserved-in-Some-lone_sign_at c =
    let sign = c.in-Some-lone_sign_at.ensures in
    (search rules, rw (c.in_ok-push-2.ensures.ok, c.in_ok-push.ensures.ok, c.from.ensures) (takes_spaced _ _ _ _ _ _ sign.gap sign.token sign.rest (takes _ _ _ _ _ c.in-Some.ensures.gap c.in-Some.ensures.token c.loop-rest.invariant.1)))

-- a number with none behind it

pub loop-rest-smaller-in_default-lone_sign_at : goal.loop-rest-smaller-in_default-lone_sign_at
loop-rest-smaller-in_default-lone_sign_at c = token_shrinks _ _ _ c.in-Some.ensures.gap c.in-Some.ensures.token

pub loop-rest-preserved-in_default-lone_sign_at : goal.loop-rest-preserved-in_default-lone_sign_at
loop-rest-preserved-in_default-lone_sign_at c = (search rules, rw (c.in_ok-push.ensures.ok, c.from.ensures) (takes _ _ _ _ _ c.in-Some.ensures.gap c.in-Some.ensures.token c.loop-rest.invariant.1))

-- a parenthesis or a comma alone

pub loop-rest-smaller-in-Some-lone_sign_at-2 : goal.loop-rest-smaller-in-Some-lone_sign_at-2
loop-rest-smaller-in-Some-lone_sign_at-2 c = spaced_shrinks _ _ _ _ c.in-Some-lone_sign_at-2.ensures.gap c.in-Some-lone_sign_at-2.ensures.token c.in-Some-lone_sign_at-2.ensures.rest

pub loop-rest-preserved-in-Some-lone_sign_at-2 : goal.loop-rest-preserved-in-Some-lone_sign_at-2
loop-rest-preserved-in-Some-lone_sign_at-2 c =
    let sign = c.in-Some-lone_sign_at-2.ensures in
    (search rules, rw c.in_ok-push-3.ensures.ok (takes_spaced _ _ _ _ _ _ sign.gap sign.token sign.rest c.loop-rest.invariant.1))

-- a blank, a comment, or any other token

pub loop-rest-smaller-in-Some-gap_at : goal.loop-rest-smaller-in-Some-gap_at
loop-rest-smaller-in-Some-gap_at c = gap_shrinks c.loop-rest.rest.now c.in-Some-gap_at.after.now (rw (← c.gap_at.ensures, c.in-Some-gap_at.is))

pub loop-rest-preserved-in-Some-gap_at : goal.loop-rest-preserved-in-Some-gap_at
loop-rest-preserved-in-Some-gap_at c = (search rules, skips _ _ c.loop-rest.rest.now c.in-Some-gap_at.after.now (rw (← c.gap_at.ensures, c.in-Some-gap_at.is)) c.loop-rest.invariant.1)

pub returns-in_err-token : goal.returns-in_err-token
returns-in_err-token c =
    let p = err_from_is_err_and c.from_residual-in_err-token.result c.from_residual-in_err-token.ensures.1 in
    rw (p.1, p.2) (stops _ _ _ c.loop-rest.rest.now (sym c.is_empty.ensures ∙ c.loop-rest-test.true) (rw (← c.gap_at.ensures, c.in_default-gap_at.is)) c.in_err-token.ensures c.loop-rest.invariant.1)

pub loop-rest-smaller : goal.loop-rest-smaller
loop-rest-smaller c = token_shrinks c.loop-rest.rest.now _ _ (rw (← c.gap_at.ensures, c.in_default-gap_at.is)) c.in_ok-token.ensures

pub loop-rest-preserved : goal.loop-rest-preserved
loop-rest-preserved c = (search rules, rw c.in_ok-push-4.ensures.ok (takes _ _ c.loop-rest.rest.now _ _ (rw (← c.gap_at.ensures, c.in_default-gap_at.is)) c.in_ok-token.ensures c.loop-rest.invariant.1))

pub returns : goal.returns
returns c = is_done _ _ _ (sym c.is_empty.ensures ∙ c.loop-rest-test.false) c.loop-rest.invariant.1
