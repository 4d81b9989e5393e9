use Rattle.std.proofs.Common.{length, vec_capacity, vec_len, ◌+◌, ◌-◌, ◌≡◌, ◌≤◌}
use Rattle.cq_encodings_numbers.proofs.PartEnds.{Parts}
use Rattle.cq_encodings_numbers.proofs.ends.ends_of_parts.Given as goal

-- the parts so far have their ends
abbrev pub invariant-loop-part : goal.invariant-loop-part
invariant-loop-part l = record {
  made : Parts l.offsets l.nulls l.ends.items;
  long : length l.ends.items ≡ l.part;
  room : vec_len l.ends + (l.count - l.part) ≤ vec_capacity l.ends;
}
