use Rattle.std.proofs.Common.{◌∙◌, ◌∷◌, ◌++◌, ◌+◌, [], ap, arith, sym}
use Rattle.cq_vectors_masks.proofs.WalkLemmas.{range_with_len-add}
use Rattle.cq_segments_pieces.proofs.places_from.places_from.Goals as goal

pub loop-place-preserved : goal.loop-place-preserved
loop-place-preserved c =
    let from = c.args.from in
    let place = c.loop-place.place in
    record {
      places = c.push_reserved.ensures.items ∙ ap (λ l. l ++ (from + place) ∷ []) c.loop-place.invariant.places ∙ sym (range_with_len-add from place 1);
      room = omega (arith, c.loop-place.invariant.room, c.loop-place-test.true, c.push_reserved.ensures.len, c.push_reserved.ensures.capacity);
    }
