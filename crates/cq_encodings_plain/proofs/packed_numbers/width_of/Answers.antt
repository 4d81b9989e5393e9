use Rattle.std.proofs.Common.{arith, get_or, subst, take, ◌≤◌}
use Rattle.std.specs.List.{All}
use Rattle.std.proofs.lemmas.List.{take_all}
use Rattle.std.proofs.lemmas.List.Elements.{All-more, All-weaker}
use Rattle.cq_encodings_plain.proofs.packed_numbers.width_of.Goals as goal
use Rattle.cq_encodings_plain.proofs.packed_numbers.width_of.Goals.{then-greatest-number, else-greatest-number}

pub loop-number-preserved : goal.loop-number-preserved
loop-number-preserved c =
    let numbers = c.args.numbers.now in
    let i = c.loop-number.number-index in
    let greatest = c.if-greatest-number.greatest in
    let kept : c.loop-number.greatest ≤ greatest =
    elim c.if-greatest-number.branch [ then-greatest-number w ↦ omega (arith, w.if-greatest-number, w.greatest-is) | else-greatest-number w ↦ omega (arith, w.if-greatest-number, w.greatest-is) ] in
    let next : get_or numbers i 0 ≤ greatest =
    elim c.if-greatest-number.branch [ then-greatest-number w ↦ omega (arith, w.if-greatest-number, w.greatest-is) | else-greatest-number w ↦ omega (arith, w.if-greatest-number, w.greatest-is) ] in
    All-more (λ number. number ≤ greatest) numbers i 0 c.loop-number-test.true
    (All-weaker (λ number. number ≤ c.loop-number.greatest) (λ number. number ≤ greatest) (λ number le. omega (arith, le, kept)) (take i numbers) c.loop-number.invariant)
    next

pub returns : goal.returns
returns c = λ k d lt.
    let all = subst (All (λ number. number ≤ c.loop-number.greatest)) (take_all c.loop-number.number-index c.args.numbers.now c.loop-number-test.false) c.loop-number.invariant in
    omega (arith, c.width_up_to.ensures, all k d lt)
