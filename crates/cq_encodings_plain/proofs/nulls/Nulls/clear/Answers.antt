use Rattle.std.proofs.Common.{arith, drop, false, replicate, sym, take, ◌*◌, ◌∙◌}
use Rattle.std.proofs.lemmas.List.{length-replicate, map-id}
use Rattle.cq_encodings_plain.proofs.Pieces.{all_joined, pieces_of_joined}
use Rattle.cq_encodings_plain.proofs.nulls.Nulls.clear.Goals as goal

pub invariant_of-result : goal.invariant_of-result
invariant_of-result c =
    let flags = replicate c.args.len false in
    pieces_of_joined (λ flag. flag) flags c.loop-k.planes.items
    (λ j lt. c.loop-k.invariant.made j lt ∙ sym (map-id (take 1024 (drop (1024 * j) flags))))
    (omega (arith, c.loop-k.invariant.long, c.loop-k-test.false, c.loop-k.auto.k-end, c.div_ceil-count.ensures, length-replicate c.args.len false))

pub returns : goal.returns
returns c =
    let flags = replicate c.args.len false in
    all_joined (λ flag. flag) flags c.loop-k.planes.items
    (λ j lt. c.loop-k.invariant.made j lt ∙ sym (map-id (take 1024 (drop (1024 * j) flags))))
    (omega (arith, c.loop-k.invariant.long, c.loop-k-test.false, c.loop-k.auto.k-end, c.div_ceil-count.ensures, length-replicate c.args.len false))
    ∙ map-id flags
