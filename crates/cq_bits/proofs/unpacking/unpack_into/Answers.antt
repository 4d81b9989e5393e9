use Rattle.std.proofs.Common.{◌≡◌, ℕ, ◌+◌, ◌*◌, ap, arith, drop, length, sym, take, ◌∙◌}
use Rattle.cq_bits.specs.Packed.{values_from}
use Rattle.cq_bits.proofs.Digits.{values_from-64, values_from-zero}
use Rattle.cq_bits.proofs.unpacking.unpack_into.Goals as goal

pub returns-in-0 : goal.returns-in-0
returns-in-0 c =
    c.fill.ensures.after (λ y e. e) ∙ values_from-zero c.args.words.now c.args.start (length c.args.to.now)
    ∙ sym (ap (λ (w : ℕ). values_from w c.args.words.now c.args.start (length c.args.to.now)) c.in-0.is)

pub returns-in-64 : goal.returns-in-64
returns-in-64 c =
    let there : 64 * (c.args.start + length c.args.to.now) ≡ c.args.width * (c.args.start + length c.args.to.now) =
    sym (ap (λ (w : ℕ). w * (c.args.start + length c.args.to.now)) c.in-64.is) in
    c.copy_from_slice.ensures.after
    ∙ ap (λ (n : ℕ). take n (drop c.args.start c.args.words.now)) (omega arith)
    ∙ values_from-64 c.args.words.now c.args.start (length c.args.to.now) (omega (arith, there)) (λ i. (c.type_inv.words i).fits)
    ∙ sym (ap (λ (w : ℕ). values_from w c.args.words.now c.args.start (length c.args.to.now)) c.in-64.is)
