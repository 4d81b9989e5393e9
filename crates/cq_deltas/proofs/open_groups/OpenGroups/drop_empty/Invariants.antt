use Rattle.cq_deltas.proofs.Leaving.{Leaves}
use Rattle.cq_deltas.proofs.open_groups.OpenGroups.drop_empty.Given as goal

-- the groups of the rows so far are gone if they have no rows
abbrev pub invariant-loop-index : goal.invariant-loop-index
invariant-loop-index l = Leaves l.fn.self l.change l.index l.end l.self
