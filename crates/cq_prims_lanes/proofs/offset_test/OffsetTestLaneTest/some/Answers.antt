use Rattle.std.proofs.Common.{◌<◌, ◌^◌, ℕ, subst, sym}
use Rattle.cq_prims_lanes.specs.UpTo.{at_place}
use Rattle.cq_prims_lanes.proofs.Lanes.{answers_small}
use Rattle.cq_prims_lanes.proofs.offset_test.OffsetTestLaneTest.some.Goals as goal

pub returns-clause-small : goal.returns-clause-small
returns-clause-small g c =
    let t = c.args.self.now in
    let answer = at_place g.N.NumberTest.passes (g.T.Offset.numbers t.offsets.now) (g.N.NumberTest.number t.test) in
    subst (λ (n : ℕ). n < 2 ^ 16) (sym c.sixteen.ensures) (answers_small answer c.args.from 16)
