use Rattle.std.proofs.Common.{◌≡◌, map, take}
use Rattle.cq_hash_groups_slots.specs.Slots.{empty_slots, grown_slots}
use Rattle.cq_hash_groups.proofs.adding.first_slots.Given as goal

-- the aggregates so far have their groups
abbrev pub invariant-loop-aggregate : goal.invariant-loop-aggregate
invariant-loop-aggregate l = l.all.items ≡ map (λ a. grown_slots l.groups (empty_slots a)) (take l.aggregate-index l.aggregates)
