use Rattle.std.proofs.Common.{get_or, length, vec_capacity, vec_len, ◌+◌, ◌-◌, ◌<◌, ◌≡◌, ◌≤◌, ℕ}
use Rattle.cq_encodings_numbers.specs.Steps.{next_to}
use Rattle.cq_encodings_numbers.proofs.steps.steps_of.Given as goal

-- the steps so far lead to the numbers so far
abbrev pub invariant-loop-number : goal.invariant-loop-number
invariant-loop-number l = record {
  long : length l.steps.items ≡ l.number-index;
  lead : (place : ℕ) → place + 1 < length l.steps.items → next_to l.least (get_or l.numbers place 0) (get_or l.steps.items (place + 1) 0) ≡ get_or l.numbers (place + 1) 0;
  last : (place : ℕ) → place + 1 ≡ length l.steps.items → l.last ≡ get_or l.numbers place 0;
  room : vec_len l.steps + (length l.numbers - l.number-index) ≤ vec_capacity l.steps;
}
