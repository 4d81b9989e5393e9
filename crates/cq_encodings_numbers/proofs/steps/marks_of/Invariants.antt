use Rattle.std.proofs.Common.{get_or, length, vec_capacity, vec_len, ◌*◌, ◌+◌, ◌-◌, ◌<◌, ◌≡◌, ◌≤◌, ℕ}
use Rattle.cq_encodings_numbers.proofs.steps.marks_of.Given as goal

-- the marks so far
abbrev pub invariant-loop-k : goal.invariant-loop-k
invariant-loop-k l = record {
  made : (j : ℕ) → j < length l.marks.items → get_or l.marks.items j 0 ≡ get_or l.numbers (1024 * j) 0;
  long : length l.marks.items ≡ l.k;
  room : vec_len l.marks + (l.count - l.k) ≤ vec_capacity l.marks;
}
