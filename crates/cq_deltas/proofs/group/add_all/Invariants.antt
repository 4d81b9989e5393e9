use Rattle.std.proofs.Common.{◌≡◌, map, take}
use Rattle.cq_deltas.specs.Kept.{KeepRoom, seen, all_kept_with}
use Rattle.cq_deltas.proofs.group.add_all.Given as goal

-- the arguments so far are put in, and where room was there is room
abbrev pub invariant-loop-place : goal.invariant-loop-place
invariant-loop-place l = record {
  seen : map seen l.kept ≡ all_kept_with l.weight (take l.place l.addends) (map seen l.fn.kept);
  kept : KeepRoom l.fn.kept l.kept;
}
