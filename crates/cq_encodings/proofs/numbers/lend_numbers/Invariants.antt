use Rattle.std.proofs.Common.{length, map, take, vec_capacity, vec_len, ◌+◌, ◌-◌, ◌≡◌, ◌≤◌}
use Rattle.cq_encodings_plain.specs.Kind.{number_values}
use Rattle.cq_values.specs.Lent.{owned}
use Rattle.cq_encodings.proofs.numbers.lend_numbers.Given as goal

-- the numbers so far are lent
abbrev pub invariant-loop-number : goal.invariant-loop-number
invariant-loop-number l = record {
  done : map owned l.lent.items ≡ number_values l.kind (take l.number-index l.numbers);
  room : vec_len l.lent + (length l.numbers - l.number-index) ≤ vec_capacity l.lent;
}
