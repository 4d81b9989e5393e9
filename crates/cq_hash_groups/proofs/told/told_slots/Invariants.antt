use Rattle.std.proofs.Common.{◌≡◌, take}
use Rattle.cq_hash_groups.specs.Lead.{lead_in, told}
use Rattle.cq_hash_groups.proofs.told.told_slots.Given as goal

-- the aggregates so far are told
abbrev pub invariant-loop-place : goal.invariant-loop-place
invariant-loop-place l = l.all.items ≡ told (lead_in l.lead) (take l.place l.aggregates) l.slots
