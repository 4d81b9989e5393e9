use Rattle.std.proofs.Common.{◌≡◌, map, take}
use Rattle.cq_deltas.specs.Kept.{HaveRoom, KeepRoom, seen}
use Rattle.cq_deltas.proofs.group.ready_all.Given as goal

-- there is room for the arguments so far, and what is kept shows the same
abbrev pub invariant-loop-place : goal.invariant-loop-place
invariant-loop-place l = record {
  seen : map seen l.kept ≡ map seen l.fn.kept;
  room : HaveRoom (take l.place l.addends) l.kept;
  kept : KeepRoom l.fn.kept l.kept;
}
