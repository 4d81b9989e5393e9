use Rattle.std.proofs.Common.{arith, drop, sym, take, ◌*◌, ◌∙◌}
use Rattle.std.proofs.lemmas.Simd.{map-map}
use Rattle.cq_values.specs.declared.lent.Lent.{Lent}
use Rattle.cq_values.specs.Lent.{owned}
use Rattle.cq_values.specs.Value.{is_null}
use Rattle.cq_encodings_plain.proofs.Pieces.{all_joined, pieces_of_joined}
use Rattle.cq_encodings_plain.proofs.nulls.Nulls.where_any.Goals as goal

pub invariant_of-result : goal.invariant_of-result
invariant_of-result c =
    pieces_of_joined (λ (value : Lent). is_null (owned value)) c.args.values.now c.loop-k.planes.items
    (λ j lt. c.loop-k.invariant.made j lt ∙ map-map is_null owned (take 1024 (drop (1024 * j) c.args.values.now)))
    (omega (arith, c.loop-k.invariant.long, c.loop-k-test.false, c.loop-k.auto.k-end, c.div_ceil-count.ensures))

pub returns : goal.returns
returns c =
    all_joined (λ (value : Lent). is_null (owned value)) c.args.values.now c.loop-k.planes.items
    (λ j lt. c.loop-k.invariant.made j lt ∙ map-map is_null owned (take 1024 (drop (1024 * j) c.args.values.now)))
    (omega (arith, c.loop-k.invariant.long, c.loop-k-test.false, c.loop-k.auto.k-end, c.div_ceil-count.ensures))
    ∙ sym (map-map is_null owned c.args.values.now)
