use Rattle.std.proofs.Common.{List, ap, arith, drop, length, take, ◌+◌, ◌∙◌, ℕ}
use Rattle.cq_bits.specs.Packed.{values_from}
use Rattle.cq_bits.proofs.Digits.{length-values_from, values_part}
use Rattle.cq_bits.proofs.Widths.{bits_there}
use Rattle.cq_bits.proofs.bits.Bits.read.Goals as goal

pub unpack_into-requires-clause-there : goal.unpack_into-requires-clause-there
unpack_into-requires-clause-there c =
    let long = length-values_from c.self.inside.width c.self.inside.words.items c.self.inside.len in
    bits_there c.self.inside.width (c.args.start + length c.args.to.now) c.self.inside.len _ (omega (arith, long, ap length c.self.view_is)) (omega (arith, c.self.invariant.holds.there))

pub returns : goal.returns
returns c =
    let long = length-values_from c.self.inside.width c.self.inside.words.items c.self.inside.len in
    values_part _ _ c.self.inside.width c.args.start (length c.args.to.now) c.unpack_into.ensures c.self.inside.len (omega (arith, long, ap length c.self.view_is))
    ∙ ap (λ (xs : List ℕ). take (length c.args.to.now) (drop c.args.start xs))
    (ap (λ (ws : List ℕ). values_from c.self.inside.width ws 0 c.self.inside.len) c.deref.ensures.value ∙ c.self.view_is)
