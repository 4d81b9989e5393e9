use Rattle.std.proofs.Common.{◌∙◌, ◌∷◌, ◌<◌, ◌++◌, [], ap, arith, length, sym}
use Rattle.cq_segments_pieces.proofs.Marks.{length-flags}
use Rattle.cq_writestore.proofs.MarkedLists.{place-kept, place-passed}
use Rattle.cq_writestore.proofs.front.WrittenFront.live_places.Goals.{then-not-is_marked, else-not-is_marked}
use Rattle.cq_writestore.proofs.front.WrittenFront.live_places.Goals as goal

pub overflow_cast-place : goal.overflow_cast-place
overflow_cast-place c =
    let written = c.args.self.now.written in
    omega (arith, c.loop-place-test.true, c.len-place-end.ensures, length-flags written.rows.now written.marks.now, c.args.self.now.few)

pub loop-place-preserved : goal.loop-place-preserved
loop-place-preserved c =
    let written = c.args.self.now.written in
    let rows = written.rows.now in
    let flags = written.marks.now in
    let place = c.loop-place.place in
    let lt : place < length rows = omega (arith, c.loop-place-test.true, c.len-place-end.ensures, length-flags rows flags) in
    elim c.if-not-is_marked.branch [
      | then-not-is_marked w ↦ record {
        places = rw w.places-is (w.push_reserved.ensures.items ∙ ap (λ l. l ++ place ∷ []) c.loop-place.invariant.places ∙ sym (place-kept rows flags place lt (sym c.is_marked.ensures ∙ w.if-not-is_marked.true)));
        room = rw w.places-is (omega (arith, c.loop-place.invariant.room, c.loop-place-test.true, w.push_reserved.ensures.len, w.push_reserved.ensures.capacity));
      }
      | else-not-is_marked w ↦ record {
        places = rw w.places-is (c.loop-place.invariant.places ∙ sym (place-passed rows flags place lt (sym c.is_marked.ensures ∙ w.if-not-is_marked.false)));
        room = rw w.places-is (omega (arith, c.loop-place.invariant.room));
      }
    ]
