use Rattle.std.proofs.Common.{◌<◌, ◌∙◌, ap, arith, false, get_or, length, sym, true}
use Rattle.cq_segments_pieces.specs.Marked.{marks_of}
use Rattle.cq_segments_pieces.proofs.Marks.{count-next, length-flags, marks_of-flags}
use Rattle.cq_segments_pieces.proofs.piece.Piece.marked_before.Goals.{then-get, else-get}
use Rattle.cq_segments_pieces.proofs.piece.Piece.marked_before.Goals as goal

pub get-requires : goal.get-requires
get-requires c = omega (arith, c.loop-place-test.true, c.requires, ap length c.self.view_is, length-flags c.self.inside.columns c.self.inside.marks, c.len-count.ensures.len, c.len-count.ensures.few)

pub loop-place-preserved : goal.loop-place-preserved
loop-place-preserved c =
    let stored = c.args.self.now in
    let place = c.loop-place.place in
    let so_far = c.loop-place.invariant in
    let lt : place < length stored = omega (arith, c.loop-place-test.true, c.requires) in
    let flag = ap (λ l. get_or l place false) (ap marks_of (sym c.self.view_is) ∙ marks_of-flags c.self.inside.columns c.self.inside.marks c.self.invariant.long) ∙ sym c.get.ensures in
    elim c.if-get.branch [
      | then-get w ↦ rw w.marked-is (omega (arith, so_far.0, count-next stored place lt true (flag ∙ w.if-get.true)), omega (arith, so_far.1))
      | else-get w ↦ rw w.marked-is (omega (arith, so_far.0, count-next stored place lt false (flag ∙ w.if-get.false)), omega (arith, so_far.1))
    ]
