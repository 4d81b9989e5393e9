use Rattle.std.proofs.Common.{◌∙◌, ◌+ℤ◌, ap, arith, length, pos, to_z-of_z}
use Rattle.cq_encodings_plain.specs.Kind.{datum}
use Rattle.cq_encodings_vectors.proofs.Packing.{least_fits, packed-are_days, packed-clear, packed-days, packed-few, packed-fit, packed-numbers, packed-same}
use Rattle.cq_encodings_vectors.proofs.PartsLemmas.{length-made}
use Rattle.cq_encodings_vectors.proofs.numbers.lend_packed.Goals as goal

pub lend_offsets-requires : goal.lend_offsets-requires
lend_offsets-requires c =
    let p = c.parts-kind in
    omega (arith, c.requires, ap length p.ensures.whole, length-made (datum p.result.0) (λ offset. p.result.1 +ℤ pos offset) p.result.2.now p.result.3.now p.ensures.parts.long)

pub new-requires-clause-few : goal.new-requires-clause-few
new-requires-clause-few c = packed-few c.args.k c.parts-kind.ensures.parts c.in_ok-offsets.ensures c.in_ok-plane.ensures.there

pub new-requires-clause-same : goal.new-requires-clause-same
new-requires-clause-same c = packed-same c.args.k c.parts-kind.ensures.parts c.in_ok-offsets.ensures c.in_ok-plane.ensures.there

pub new-requires-clause-clear : goal.new-requires-clause-clear
new-requires-clause-clear c = packed-clear c.args.k c.parts-kind.ensures.parts c.in_ok-offsets.ensures c.in_ok-plane.ensures.there

pub new-requires-clause-fit : goal.new-requires-clause-fit
new-requires-clause-fit c = packed-fit c.args.k c.parts-kind.ensures.parts c.in_ok-offsets.ensures c.in_ok-plane.ensures.there _ (to_z-of_z (least_fits c.args.k c.parts-kind.ensures.parts)) c.in-Numbers.is

pub narrow_days-requires-clause-few : goal.narrow_days-requires-clause-few
narrow_days-requires-clause-few c = packed-few c.args.k c.parts-kind.ensures.parts c.in_ok-offsets.ensures c.in_ok-plane.ensures.there

pub narrow_days-requires-clause-same : goal.narrow_days-requires-clause-same
narrow_days-requires-clause-same c = packed-same c.args.k c.parts-kind.ensures.parts c.in_ok-offsets.ensures c.in_ok-plane.ensures.there

pub narrow_days-requires-clause-clear : goal.narrow_days-requires-clause-clear
narrow_days-requires-clause-clear c = packed-clear c.args.k c.parts-kind.ensures.parts c.in_ok-offsets.ensures c.in_ok-plane.ensures.there

pub narrow_days-requires-clause-fit : goal.narrow_days-requires-clause-fit
narrow_days-requires-clause-fit c = packed-are_days c.args.k c.parts-kind.ensures.parts c.in_ok-offsets.ensures c.in_ok-plane.ensures.there _ (to_z-of_z (least_fits c.args.k c.parts-kind.ensures.parts)) c.in-Days.is

pub returns-in-Numbers : goal.returns-in-Numbers
returns-in-Numbers c =
    c.new.ensures
    ∙ packed-numbers c.args.k c.parts-kind.ensures.parts c.in_ok-offsets.ensures c.in_ok-plane.ensures.there
    _ (to_z-of_z (least_fits c.args.k c.parts-kind.ensures.parts)) c.args.packed.now c.parts-kind.ensures.whole c.in-Numbers.is

pub returns-in_ok-days-in-Days : goal.returns-in_ok-days-in-Days
returns-in_ok-days-in-Days c =
    c.in_ok-days-in-Days.ensures
    ∙ packed-days c.args.k c.parts-kind.ensures.parts c.in_ok-offsets.ensures c.in_ok-plane.ensures.there
    _ (to_z-of_z (least_fits c.args.k c.parts-kind.ensures.parts)) c.args.packed.now c.parts-kind.ensures.whole c.in-Days.is
