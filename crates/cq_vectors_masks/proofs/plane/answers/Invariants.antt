use Rattle.std.proofs.Common.{◌≡◌, map}
use Rattle.std.specs.List.{range_with_len}
use lib.Lanes.{mask_l}
use Rattle.cq_vectors_masks.proofs.plane.answers.Given as goal

-- the word holds the answers of the first i places
abbrev pub invariant-loop-i : goal.invariant-loop-i
invariant-loop-i g l = l.word ≡ mask_l (map (g.T.PlaceTest.holds l.test) (range_with_len l.from l.i))
