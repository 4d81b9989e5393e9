use Rattle.std.proofs.Common.{◌≤◌, ◌∙◌, ◌∷◌, [], ap, arith, length, length-append, sym, take}
use Rattle.std.proofs.lemmas.List.{take_all}
use Rattle.cq_segments_pieces.specs.Marked.{live_from}
use Rattle.cq_segments_pieces.proofs.Marks.{length-flags, length-live_from}
use Rattle.cq_writestore.specs.Writes.{tail_rows}
use Rattle.cq_writestore.proofs.MarkedLists.{place-kept, place-passed}
use Rattle.cq_writestore.proofs.tail.Tail.live_len.Goals.{then-not-is_marked, else-not-is_marked}
use Rattle.cq_writestore.proofs.tail.Tail.live_len.Goals as goal

pub loop-place-preserved : goal.loop-place-preserved
loop-place-preserved c =
    let written = c.args.self.now in
    let rows = written.rows.now in
    let flags = written.marks.now in
    let place = c.loop-place.place in
    let so_far = c.loop-place.invariant in
    let lt = c.loop-place-test.true in
    elim c.if-not-is_marked.branch [
      | then-not-is_marked w ↦ rw w.count-is (
        omega (arith, so_far.0, ap length (place-kept rows flags place lt (sym c.is_marked.ensures ∙ w.if-not-is_marked.true)), length-append (live_from 0 (take place (tail_rows written))) (place ∷ [])),
        omega (arith, so_far.1),
      )
      | else-not-is_marked w ↦ rw w.count-is (
        so_far.0 ∙ sym (ap length (place-passed rows flags place lt (sym c.is_marked.ensures ∙ w.if-not-is_marked.false))),
        omega (arith, so_far.1),
      )
    ]

pub returns : goal.returns
returns c =
    let stored = tail_rows c.args.self.now in
    let past : length stored ≤ c.loop-place.place = omega (arith, c.loop-place-test.false, length-flags c.args.self.now.rows.now c.args.self.now.marks.now) in
    c.loop-place.invariant.0 ∙ ap (λ l. length (live_from 0 l)) (take_all c.loop-place.place stored past) ∙ length-live_from 0 stored
