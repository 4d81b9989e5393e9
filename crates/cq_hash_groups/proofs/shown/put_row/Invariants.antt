use Rattle.std.proofs.Common.{◌≡◌, ◌+◌, length, take}
use Rattle.std.specs.List.{AllByRecursion}
use Rattle.cq_hash_keys.specs.Keys.{HasValues, key_at}
use Rattle.cq_hash_groups.specs.Groups.{shown_row}
use Rattle.cq_hash_groups_slots.specs.Slots.{CanShow}
use Rattle.cq_hash_groups.proofs.shown.put_row.Given as goal

-- the aggregates so far stand behind the key, and can be shown
abbrev pub invariant-loop-each : goal.invariant-loop-each
invariant-loop-each l = record {
  rows : l.filling.rows ≡ l.fn.filling.rows;
  wide : l.filling.width ≡ l.fn.filling.width;
  count : length l.filling.begun ≡ l.width + l.each-index;
  row : HasValues l.width (key_at l.found.keys l.group) → l.filling.begun ≡ shown_row (key_at l.found.keys l.group) l.group (take l.each-index l.slots);
  range : AllByRecursion (CanShow l.group) (take l.each-index l.slots);
}
