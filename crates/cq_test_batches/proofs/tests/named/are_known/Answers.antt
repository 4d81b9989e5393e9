use Rattle.std.proofs.Common.{◌<◌, get_or, subst, sym, take, arith}
use Rattle.std.specs.List.{All}
use Rattle.std.proofs.lemmas.List.{take_all, take_more}
use Rattle.std.proofs.lemmas.List.Elements.{All-push}
use Rattle.cq_test_batches.proofs.tests.named.are_known.Goals as goal

pub loop-number-preserved : goal.loop-number-preserved
loop-number-preserved c =
    let numbers = c.args.numbers.now in
    let i = c.loop-number.number-index in
    let known : get_or numbers i 0 < c.args.count = omega (arith, c.if-count-number.false) in
    subst (All (λ n. n < c.args.count)) (sym (take_more numbers i 0 c.loop-number-test.true)) (All-push (λ n. n < c.args.count) (take i numbers) (get_or numbers i 0) c.loop-number.invariant known)

pub returns : goal.returns
returns c =
    subst (All (λ n. n < c.args.count)) (take_all c.loop-number.number-index c.args.numbers.now (omega (arith, c.loop-number-test.false))) c.loop-number.invariant
