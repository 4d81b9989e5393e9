use Rattle.std.proofs.Common.{[], drop, false, get_or, length, replicate, take, vec_capacity, vec_len, ◌*◌, ◌+◌, ◌-◌, ◌<◌, ◌≡◌, ◌≤◌, ℕ}
use Rattle.cq_encodings_plain.proofs.nulls.Nulls.clear.Given as goal

-- the planes so far
abbrev pub invariant-loop-k : goal.invariant-loop-k
invariant-loop-k l = record {
  made : (j : ℕ) → j < length l.planes.items → get_or l.planes.items j [] ≡ take 1024 (drop (1024 * j) (replicate l.len false));
  long : length l.planes.items ≡ l.k;
  room : vec_len l.planes + (l.count - l.k) ≤ vec_capacity l.planes;
}
