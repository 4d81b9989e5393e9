use Rattle.std.proofs.Common.{◌∙◌, ◌∷◌, ◌<◌, ◌++◌, [], ap, arith, false, get_or, length, sym}
use Rattle.std.proofs.lemmas.List.{take_all}
use Rattle.cq_segments_pieces.specs.Marked.{live_from, marks_of}
use Rattle.cq_segments_pieces.proofs.Marks.{length-flags, live_from-kept, live_from-passed, marks_of-flags}
use Rattle.cq_segments_pieces.proofs.piece.Piece.live_places.Goals.{then-not-get, else-not-get}
use Rattle.cq_segments_pieces.proofs.piece.Piece.live_places.Goals as goal

pub loop-place-preserved : goal.loop-place-preserved
loop-place-preserved c =
    let stored = c.args.self.now in
    let place = c.loop-place.place in
    let lt : place < length stored = omega (arith, c.loop-place-test.true, c.len-place-end.ensures.len, length-flags c.self.inside.columns c.self.inside.marks, ap length c.self.view_is) in
    let flag = ap (λ l. get_or l place false) (ap marks_of (sym c.self.view_is) ∙ marks_of-flags c.self.inside.columns c.self.inside.marks c.self.invariant.long) ∙ sym c.get.ensures in
    elim c.if-not-get.branch [
      | then-not-get w ↦ record {
        places = rw w.places-is (w.push_reserved.ensures.items ∙ ap (λ l. l ++ place ∷ []) c.loop-place.invariant.places ∙ sym (live_from-kept stored place lt (flag ∙ w.if-not-get.true)));
        room = rw w.places-is (omega (arith, c.loop-place.invariant.room, c.loop-place-test.true, w.push_reserved.ensures.len, w.push_reserved.ensures.capacity));
      }
      | else-not-get w ↦ record {
        places = rw w.places-is (c.loop-place.invariant.places ∙ sym (live_from-passed stored place lt (flag ∙ w.if-not-get.false)));
        room = rw w.places-is (omega (arith, c.loop-place.invariant.room));
      }
    ]

pub returns : goal.returns
returns c =
    let stored = c.args.self.now in
    c.loop-place.invariant.places ∙ ap (live_from 0) (take_all c.loop-place.place stored (omega (arith, c.loop-place-test.false, c.len-place-end.ensures.len, length-flags c.self.inside.columns c.self.inside.marks, ap length c.self.view_is)))
