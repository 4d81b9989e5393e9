use Rattle.std.proofs.Common.{ℕ, ◌/◌, ◌%◌, ◌^◌, sym, ◌∙◌, ap}
use Rattle.cq_bits.specs.Packed.{number_of, value_at}
use Rattle.cq_bits.proofs.Digits.{cut_out_first, value_at-zero}
use Rattle.cq_bits.proofs.unpacking.unpack_at.Goals as goal

pub returns-then-width-eq0 : goal.returns-then-width-eq0
returns-then-width-eq0 c = sym (ap (λ (w : ℕ). value_at w c.args.words.now c.args.place) c.if-width-eq0.true ∙ value_at-zero c.args.words.now c.args.place)

pub returns : goal.returns
returns c =
    cut_out_first c.args.width c.args.place c.window.result c.args.words.now
    (c.window.ensures ∙ ap (λ (n : ℕ). number_of 64 c.args.words.now / 2 ^ n % 2 ^ 64) c.seek-word.ensures.place) c.requires.narrow
