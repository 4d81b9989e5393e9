use Rattle.std.proofs.Common.{◌∙◌, pos}
use Rattle.cq_encodings_vectors.proofs.NumbersAt.{numbers-few, numbers-fit, numbers-made, numbers-same, numbers-zero}
use Rattle.cq_encodings_vectors.proofs.numbers_at.numbers_at.Goals as goal

pub new-requires-clause-few : goal.new-requires-clause-few
new-requires-clause-few c =
    numbers-few c.args.numbers.now c.args.places.now c.values.ensures.values c.nulls-nulls.ensures (c.in_ok-values.ensures (pos 0)) c.nulls_at-flags.ensures c.requires.few

pub new-requires-clause-same : goal.new-requires-clause-same
new-requires-clause-same c =
    numbers-same c.args.numbers.now c.args.places.now c.values.ensures.values c.nulls-nulls.ensures (c.in_ok-values.ensures (pos 0)) c.nulls_at-flags.ensures

pub new-requires-clause-zero : goal.new-requires-clause-zero
new-requires-clause-zero c =
    numbers-zero c.args.numbers.now c.args.places.now c.values.ensures.values c.nulls-nulls.ensures (c.in_ok-values.ensures (pos 0)) c.nulls_at-flags.ensures

pub new-requires-clause-fit : goal.new-requires-clause-fit
new-requires-clause-fit c =
    numbers-fit c.args.numbers.now c.args.places.now c.values.ensures.values c.nulls-nulls.ensures (c.in_ok-values.ensures (pos 0)) c.nulls_at-flags.ensures c.values.ensures.fit

pub returns : goal.returns
returns c =
    c.new.ensures
    ∙ numbers-made c.args.numbers.now c.args.places.now c.values.ensures.values c.nulls-nulls.ensures (c.in_ok-values.ensures (pos 0)) c.nulls_at-flags.ensures
    c.values.ensures.whole c.requires.there
