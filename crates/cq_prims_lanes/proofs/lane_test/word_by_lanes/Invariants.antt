use Rattle.std.proofs.Common.{◌≡◌, ◌*◌, map}
use Rattle.std.specs.List.{range_with_len}
use Rattle.std.specs.Simd.Lanes.{mask_l}
use Rattle.cq_prims_lanes.proofs.lane_test.word_by_lanes.Given as goal

-- the word holds the answers of so many places for each turn
abbrev pub invariant-loop-k : goal.invariant-loop-k
invariant-loop-k g l = l.word ≡ mask_l (map (g.T.PlaceTest.holds l.test) (range_with_len l.from (l.lanes * l.k)))
