use Rattle.std.proofs.Common.{arith}
use Rattle.cq_operators_listing.proofs.Digits.{has_read-all, has_read-fits, has_read-next, has_read-small, text_rank-small}
use Rattle.cq_operators_listing.proofs.ranks.text_rank.Goals as goal

pub overflow_mul-rank : goal.overflow_mul-rank
overflow_mul-rank c =
    let h = has_read-fits c.loop-place.place c.loop-place.rank c.args.bytes.now c.loop-place-test.true c.loop-place.invariant in
    omega (arith, h)

pub overflow_add-rank : goal.overflow_add-rank
overflow_add-rank c =
    let h = has_read-fits c.loop-place.place c.loop-place.rank c.args.bytes.now c.loop-place-test.true c.loop-place.invariant in
    omega (arith, h, c.digit.ensures.small)

pub loop-place-preserved : goal.loop-place-preserved
loop-place-preserved c =
    has_read-next c.loop-place.place c.loop-place.rank c.digit.result c.args.bytes.now c.loop-place-test.true c.digit.ensures.value c.digit.ensures.small c.loop-place.invariant

pub overflow_mul-result : goal.overflow_mul-result
overflow_mul-result c =
    let h = has_read-small c.loop-place.place c.loop-place.rank c.args.bytes.now (omega (arith, c.loop-place-test.false, c.loop-place.auto.place-end)) c.loop-place.invariant in
    omega (arith, h)

-- the bytes are read, and it is told whether there are more
pub overflow_add-result : goal.overflow_add-result
overflow_add-result c =
    let all = has_read-all c.loop-place.place c.loop-place.rank c.from.result c.args.bytes.now (omega (arith, c.loop-place-test.false, c.loop-place.auto.place-end)) c.from.ensures c.loop-place.invariant in
    omega (arith, text_rank-small c.loop-place.rank c.from.result c.args.bytes.now all)

pub returns-clause-value : goal.returns-clause-value
returns-clause-value c =
    has_read-all c.loop-place.place c.loop-place.rank c.from.result c.args.bytes.now (omega (arith, c.loop-place-test.false, c.loop-place.auto.place-end)) c.from.ensures c.loop-place.invariant

pub returns-clause-small : goal.returns-clause-small
returns-clause-small c =
    let all = has_read-all c.loop-place.place c.loop-place.rank c.from.result c.args.bytes.now (omega (arith, c.loop-place-test.false, c.loop-place.auto.place-end)) c.from.ensures c.loop-place.invariant in
    omega (arith, text_rank-small c.loop-place.rank c.from.result c.args.bytes.now all)
