use Rattle.std.proofs.Common.{◌≡◌, ◌<◌, ◌∙◌, ◌∷◌, [], ap, arith, get_or, length, length-append, sym, take}
use Rattle.std.proofs.lemmas.List.{take_all}
use Rattle.cq_segments_pieces.specs.Marked.{live_from}
use Rattle.cq_segments_pieces.proofs.Marks.{length-flags, length-live_from}
use Rattle.cq_writestore.specs.Writes.{tail_rows}
use Rattle.cq_writestore.proofs.MarkedLists.{place-kept, place-passed, place-there}
use Rattle.cq_writestore.proofs.front.WrittenFront.live_place.Goals.{then-not-is_marked+else-left-eq0, else-not-is_marked}
use Rattle.cq_writestore.proofs.front.WrittenFront.live_place.Goals as goal

pub returns-then-left-eq0-clause-place : goal.returns-then-left-eq0-clause-place
returns-then-left-eq0-clause-place c =
    let written = c.args.self.now.written in
    let rows = written.rows.now in
    let flags = written.marks.now in
    let place = c.loop-place.place in
    let lt : place < length rows = omega (arith, c.loop-place-test.true, c.len-place-end.ensures, length-flags rows flags) in
    let count : length (live_from 0 (take place (tail_rows written))) ≡ c.args.count = omega (arith, c.loop-place.invariant, c.if-left-eq0.true) in
    sym (place-there rows flags place lt (sym c.is_marked.ensures ∙ c.if-not-is_marked.true)) ∙ ap (λ n. get_or (live_from 0 (tail_rows written)) n 0) count

pub loop-place-preserved : goal.loop-place-preserved
loop-place-preserved c =
    let written = c.args.self.now.written in
    let rows = written.rows.now in
    let flags = written.marks.now in
    let place = c.loop-place.place in
    let lt : place < length rows = omega (arith, c.loop-place-test.true, c.len-place-end.ensures, length-flags rows flags) in
    elim c.if-not-is_marked.branch [
      | then-not-is_marked+else-left-eq0 w ↦ rw w.left-is (omega (arith, c.loop-place.invariant, w.if-left-eq0.false, ap length (place-kept rows flags place lt (sym c.is_marked.ensures ∙ w.if-not-is_marked.true)), length-append (live_from 0 (take place (tail_rows written))) (place ∷ [])))
      | else-not-is_marked w ↦ rw w.left-is (omega (arith, c.loop-place.invariant, ap length (place-passed rows flags place lt (sym c.is_marked.ensures ∙ w.if-not-is_marked.false))))
    ]

pub returns-clause-there : goal.returns-clause-there
returns-clause-there c =
    let stored = tail_rows c.args.self.now.written in
    let all = take_all c.loop-place.place stored (omega (arith, c.loop-place-test.false, c.len-place-end.ensures)) in
    absurd (omega (arith, c.requires, c.loop-place.invariant, ap (λ l. length (live_from 0 l)) all, length-live_from 0 stored))

pub returns-clause-place : goal.returns-clause-place
returns-clause-place c =
    let stored = tail_rows c.args.self.now.written in
    let all = take_all c.loop-place.place stored (omega (arith, c.loop-place-test.false, c.len-place-end.ensures)) in
    absurd (omega (arith, c.requires, c.loop-place.invariant, ap (λ l. length (live_from 0 l)) all, length-live_from 0 stored))
