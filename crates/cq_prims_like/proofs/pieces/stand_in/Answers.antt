use Rattle.std.proofs.Common.{◌≡◌, ◌+◌, sym, ap, subst, arith, drop, length, length-drop}
use Rattle.memchr.specs.Find.{FindsNeedle}
use Rattle.cq_prims_like.specs.Patterns.{StandIn}
use Rattle.cq_prims_like.proofs.PieceLemmas.{step_none, step_given, step_taken, whole_rest}
use Rattle.cq_prims_like.proofs.pieces.stand_in.Goals as goal

pub overflow_add-rest : goal.overflow_add-rest
overflow_add-rest c =
    let found = subst (λ r. FindsNeedle c.loop-piece.rest.now c.piece-item.result 0 r) c.in-Some.is c.find.ensures in
    let room = found.1.fits in
    omega (arith, room, ap length c.needle.ensures)

pub returns-in-None : goal.returns-in-None
returns-in-None c =
    let found = subst (λ r. FindsNeedle c.loop-piece.rest.now c.piece-item.result 0 r) c.in-None.is c.find.ensures in (
      λ h. absurd (cc),
      λ h. absurd (step_none c.args.pieces.now c.loop-piece.piece-index c.piece-item.result c.loop-piece.rest.now c.loop-piece-test.true c.piece-item.is found (c.loop-piece.invariant.taken h)),
    )

pub loop-piece-preserved : goal.loop-piece-preserved
loop-piece-preserved c =
    let rest = c.loop-piece.rest.now in
    let at = c.in-Some.at in
    let pieces = c.args.pieces.now in
    let i = c.loop-piece.piece-index in
    let piece = c.piece-item.result in
    let n = at + length c.needle.result.now in
    let found = subst (λ r. FindsNeedle rest piece 0 r) c.in-Some.is c.find.ensures in
    let far : n ≡ at + length piece = ap (λ l. at + length l) c.needle.ensures in
    record {
      given = λ h. c.loop-piece.invariant.given (step_given pieces i piece rest c.loop-piece-test.true c.piece-item.is at n found far
          (subst (λ l. StandIn (drop (i + 1) pieces) l) (whole_rest rest n) h));
      taken = λ h. subst (λ l. StandIn (drop (i + 1) pieces) l) (sym (whole_rest rest n))
          (step_taken pieces i piece rest c.loop-piece-test.true c.piece-item.is at n found far (c.loop-piece.invariant.taken h));
      short = omega (arith, c.loop-piece.invariant.short, ap length (whole_rest rest n), length-drop n rest);
    }
