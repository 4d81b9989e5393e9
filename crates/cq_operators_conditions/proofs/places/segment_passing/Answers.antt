use Rattle.std.proofs.Common.{◌-◌, arith, subst, sym}
use Rattle.cq_encodings_vectors.specs.Places.{AreBelow}
use Rattle.cq_operators_conditions.specs.Passing.{passing_rows}
use Rattle.cq_operators_conditions.proofs.Standing.{next-below, next-can, next-placed, passing-parts}
use Rattle.cq_operators_conditions.proofs.places.segment_passing.Goals as goal

pub piece_passing-requires : goal.piece_passing-requires
piece_passing-requires c =
    next-can (passing_rows c.args.before c.args.conditions.now) c.args.segment.now c.pieces-piece-items.result.now c.loop-piece.piece-index c.piece-item.result c.loop-piece-test.true c.piece-item.is
    c.loop-piece.start c.loop-piece.passing.items c.loop-piece.invariant c.args.before c.args.conditions.now c.requires

pub append_from-requires : goal.append_from-requires
append_from-requires c =
    subst (AreBelow (65536 - c.loop-piece.start)) (sym c.as_slice.ensures.value)
    (next-below (passing_rows c.args.before c.args.conditions.now) c.args.segment.now c.pieces-piece-items.result.now c.loop-piece.piece-index c.piece-item.result c.loop-piece-test.true c.piece-item.is
    c.loop-piece.start c.loop-piece.passing.items c.loop-piece.invariant (omega (arith, c.len-len.ensures.len, c.len-len.ensures.few)) c.in_ok-places.places.items c.in_ok-places.ensures.there)

pub loop-piece-preserved : goal.loop-piece-preserved
loop-piece-preserved c =
    let placed = next-placed (passing_rows c.args.before c.args.conditions.now) c.args.segment.now c.pieces-piece-items.result.now c.loop-piece.piece-index c.piece-item.result c.loop-piece-test.true c.piece-item.is
    c.loop-piece.start c.loop-piece.passing.items c.loop-piece.invariant (passing-parts c.args.before c.args.conditions.now) c.in_ok-places.places.items c.in_ok-places.ensures.there c.in_ok-places.ensures.passed in
    rw c.len-start.ensures.len
    (rw c.in_ok-append_from.ensures
    (rw c.as_slice.ensures.value placed))
