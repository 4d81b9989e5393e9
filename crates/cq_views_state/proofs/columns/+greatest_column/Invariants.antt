use Rattle.std.proofs.Common.{drop}
use Rattle.cq_views_state.proofs.Naming.{EndsSoFar}
use Rattle.cq_views_state.proofs.columns.+greatest_column.Given as goal

-- what the chain names of the parts so far ends at the greatest column
abbrev pub invariant-loop-part : goal.invariant-loop-part
invariant-loop-part l = EndsSoFar l.greatest (drop l.part-index l.part-items) l.tree
