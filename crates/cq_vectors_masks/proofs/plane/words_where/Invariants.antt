use Rattle.std.proofs.Common.{◌≡◌, ℕ, ◌<◌, ◌*◌, ◌-◌, min, get_or, map}
use Rattle.std.specs.List.{range_with_len}
use lib.Lanes.{mask_l}
use Rattle.cq_vectors_masks.proofs.plane.words_where.Given as goal

-- the words below k hold the answers of their places
abbrev pub invariant-loop-k : goal.invariant-loop-k
invariant-loop-k g l = (j : ℕ) → j < l.k → get_or l.to j 0 ≡ mask_l (map (g.T.PlaceTest.holds l.test) (range_with_len (64 * j) (min (l.len - 64 * j) 64)))
