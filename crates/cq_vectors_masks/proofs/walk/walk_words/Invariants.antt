use Rattle.std.proofs.Common.{◌≡◌, ◌≤◌, ◌*◌, take, length}
use Rattle.std.specs.List.{filter, range_with_len}
use Rattle.cq_vectors_masks.specs.Plane.{is_set}
use Rattle.cq_vectors_masks.proofs.walk.walk_words.Given as goal

-- the places of the words below k are written
abbrev pub invariant-loop-k : goal.invariant-loop-k
invariant-loop-k l = (l.n ≤ 64 * l.k) × (length l.to ≡ length l.initial.to) × (take l.n l.to ≡ filter (is_set l.words) (range_with_len 0 (64 * l.k)))
