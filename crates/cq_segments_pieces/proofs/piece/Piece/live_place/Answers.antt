use Rattle.std.proofs.Common.{◌≡◌, ◌∙◌, ◌<◌, ◌∷◌, [], length-append, ap, arith, false, get_or, length, sym, take}
use Rattle.std.proofs.lemmas.List.{take_all}
use Rattle.cq_segments_pieces.specs.Marked.{live_from, marks_of}
use Rattle.cq_segments_pieces.proofs.Marks.{length-flags, length-live_from, live_from-kept, live_from-passed, live_from-there, marks_of-flags}
use Rattle.cq_segments_pieces.proofs.piece.Piece.live_place.Goals.{then-not-get+else-left-eq0, else-not-get}
use Rattle.cq_segments_pieces.proofs.piece.Piece.live_place.Goals as goal

pub returns-then-left-eq0-clause-there : goal.returns-then-left-eq0-clause-there
returns-then-left-eq0-clause-there c =
    omega (arith, c.loop-place-test.true, c.len-place-end.ensures.len, length-flags c.self.inside.columns c.self.inside.marks, ap length c.self.view_is)

pub returns-then-left-eq0-clause-place : goal.returns-then-left-eq0-clause-place
returns-then-left-eq0-clause-place c =
    let stored = c.args.self.now in
    let place = c.loop-place.place in
    let lt : place < length stored = omega (arith, c.loop-place-test.true, c.len-place-end.ensures.len, length-flags c.self.inside.columns c.self.inside.marks, ap length c.self.view_is) in
    let flag = ap (λ l. get_or l place false) (ap marks_of (sym c.self.view_is) ∙ marks_of-flags c.self.inside.columns c.self.inside.marks c.self.invariant.long) ∙ sym c.get.ensures ∙ c.if-not-get.true in
    let count : length (live_from 0 (take place stored)) ≡ c.args.count = omega (arith, c.loop-place.invariant, c.if-left-eq0.true) in
    sym (live_from-there stored place lt flag) ∙ ap (λ n. get_or (live_from 0 stored) n 0) count

pub loop-place-preserved : goal.loop-place-preserved
loop-place-preserved c =
    let stored = c.args.self.now in
    let place = c.loop-place.place in
    let lt : place < length stored = omega (arith, c.loop-place-test.true, c.len-place-end.ensures.len, length-flags c.self.inside.columns c.self.inside.marks, ap length c.self.view_is) in
    let flag = ap (λ l. get_or l place false) (ap marks_of (sym c.self.view_is) ∙ marks_of-flags c.self.inside.columns c.self.inside.marks c.self.invariant.long) ∙ sym c.get.ensures in
    elim c.if-not-get.branch [
      | then-not-get+else-left-eq0 w ↦ rw w.left-is (omega (arith, c.loop-place.invariant, w.if-left-eq0.false, ap length (live_from-kept stored place lt (flag ∙ w.if-not-get.true)), length-append (live_from 0 (take place stored)) (place ∷ [])))
      | else-not-get w ↦ rw w.left-is (omega (arith, c.loop-place.invariant, ap length (live_from-passed stored place lt (flag ∙ w.if-not-get.false))))
    ]

pub returns-clause-place : goal.returns-clause-place
returns-clause-place c =
    let stored = c.args.self.now in
    let all = take_all c.loop-place.place stored (omega (arith, c.loop-place-test.false, c.len-place-end.ensures.len, length-flags c.self.inside.columns c.self.inside.marks, ap length c.self.view_is)) in
    absurd (omega (arith, c.requires, c.loop-place.invariant, ap (λ l. length (live_from 0 l)) all, length-live_from 0 stored))
