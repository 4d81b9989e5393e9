use Rattle.std.proofs.Common.{take}
use Rattle.cq_deltas.specs.Keyed.{ArePut, KeepPlaces, additions_at}
use Rattle.cq_deltas.proofs.open_groups.OpenGroups.put_all.Given as goal

-- the rows so far are in their groups, and the groups stand where they stood
abbrev pub invariant-loop-index : goal.invariant-loop-index
invariant-loop-index l = record {
  put : ArePut l.fn.self (take l.index (additions_at l.fn.self l.change)) l.self;
  keep : KeepPlaces l.fn.self l.self;
}
