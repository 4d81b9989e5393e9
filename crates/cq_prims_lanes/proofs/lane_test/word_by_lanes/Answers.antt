use Rattle.std.proofs.Common.{◌∙◌, ◌*◌, ◌+◌, ◌≡◌, ℕ, ap, map, arith}
use Rattle.std.proofs.Math.Nat.{mul-add}
use Rattle.std.specs.List.{range_with_len}
use Rattle.std.specs.Simd.Lanes.{mask_l}
use Rattle.cq_prims_lanes.proofs.Lanes.{answers_more}
use Rattle.cq_prims_lanes.proofs.lane_test.word_by_lanes.Goals as goal

pub loop-k-preserved : goal.loop-k-preserved
loop-k-preserved g c =
    let h = g.T.PlaceTest.holds c.args.test.now in
    let lanes = c.lanes-lanes.result in
    let k = c.loop-k.k in
    let more : lanes * k + lanes ≡ lanes * (k + 1) = omega (arith, mul-add lanes k 1) in
    let answers = rw (← c.lanes-lanes.ensures) at c.some.ensures.value in
    answers_more h c.args.from (lanes * k) lanes c.loop-k.word _ c.loop-k.invariant (rw answers at c.at_bit-word.ensures)
    ∙ ap (λ (n : ℕ). mask_l (map h (range_with_len c.args.from n))) more

pub returns : goal.returns
returns g c =
    let lanes = c.lanes-lanes.result in
    let all : lanes * c.turns-k-end.result ≡ 64 = rw (← c.lanes-lanes.ensures) at c.turns-k-end.ensures in
    let whole : lanes * c.loop-k.k ≡ 64 = ap (λ (n : ℕ). lanes * n) (omega arith) ∙ all in
    c.loop-k.invariant ∙ ap (λ (n : ℕ). mask_l (map (g.T.PlaceTest.holds c.args.test.now) (range_with_len c.args.from n))) whole
