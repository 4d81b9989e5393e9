use Rattle.std.proofs.Common.{◌≡◌, ℕ, ◌+◌, get_or, length, take}
use Rattle.cq_hash_groups.specs.Groups.{all_added}
use Rattle.cq_hash_groups.specs.Lead.{first_sum}
use Rattle.cq_hash_groups_slots.specs.Slots.{AreWithin, no_slots}
use Rattle.cq_hash_groups.proofs.adding.add_all.Given as goal

-- the aggregates so far have the rows, and none has more values than were there or added
abbrev pub invariant-loop-place : goal.invariant-loop-place
invariant-loop-place l = record {
  added : l.slots ≡ all_added (first_sum l.aggregates) l.groups l.numbers l.scan (take l.place l.aggregates) l.fn.slots;
  within : (n place : ℕ) → AreWithin n (get_or l.fn.slots place no_slots) → AreWithin (n + length l.numbers) (get_or l.slots place no_slots);
}
