use Rattle.std.proofs.Common.{◌≡◌, ◌+◌, ◌-◌, ◌≤◌, map, take, length, pos}
use Rattle.std.specs.Vec.{vec_capacity, vec_len}
use Rattle.cq_hash_groups_distinct.proofs.group_column.lay_groups.Given as goal

-- the numbers so far stand there, and there is room for the others
abbrev pub invariant-loop-place : goal.invariant-loop-place
invariant-loop-place l = (l.groups.items ≡ map pos (take l.place l.numbers)) × (vec_len l.groups + (length l.numbers - l.place) ≤ vec_capacity l.groups)
