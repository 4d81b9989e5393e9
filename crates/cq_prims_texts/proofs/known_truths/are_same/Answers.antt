use Rattle.std.proofs.Common.{◌≡◌, ◌∙◌, length, sym, arith, rules}
use Rattle.std.proofs.lemmas.Bool.{OnTrue_from}
use Rattle.cq_prims_texts.proofs.SameTexts.{all_texts, same_texts}
use Rattle.cq_prims_texts.proofs.known_truths.are_same.Goals as goal

pub loop-i-init : goal.loop-i-init
loop-i-init c said =
    let a = c.args.a.now in
    let b = c.args.b.now in
    let n = c.len-len.result in
    let bytes : c.bytes_of.result.now ≡ c.bytes_of-2.result.now = search (rules, said) in (
      sym (all_texts a n c.len-len.ensures.len) ∙ sym c.bytes_of.ensures.bytes ∙ bytes ∙ c.bytes_of-2.ensures.bytes ∙ all_texts b n (sym c.if-len.false ∙ c.len.ensures.len),
      λ j lt. omega (arith, lt),
    )

pub returns : goal.returns
returns c =
    let a = c.args.a.now in
    let b = c.args.b.now in
    let long : length a ≡ length b = omega (arith, c.if-len.false, c.len-len.ensures.len, c.len.ensures.len) in
    OnTrue_from c.loop-i.same (a ≡ b) (λ yes. same_texts a b long (c.loop-i.invariant yes).0
    (λ j lt. (c.loop-i.invariant yes).1 j (omega (arith, lt, c.loop-i-test.false, c.len-len.ensures.len))))
