use Rattle.std.proofs.Common.{◌≡◌, ℕ, take}
use Rattle.cq_hash_keys.specs.Grid.{pair_in}
use Rattle.cq_hash_keys.specs.Pairs.{place_of_pair}
use Rattle.cq_hash_keys.proofs.pairs.Pairs.lay_anew.Given as goal

-- the grid has the numbers of the pairs so far
abbrev pub invariant-loop-number : goal.invariant-loop-number
invariant-loop-number l = (pair : ℕ × ℕ) → pair_in l.grid pair ≡ place_of_pair (take l.number l.self-inside.met.items) pair
