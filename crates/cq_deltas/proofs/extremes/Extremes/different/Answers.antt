use Rattle.std.proofs.Common.{sym, ◌∙◌}
use Rattle.cq_deltas.proofs.Different.{different-counted}
use Rattle.cq_deltas.proofs.extremes.Extremes.different.Goals as goal

pub returns : goal.returns
returns c =
    rw (← c.self.view_is)
    (c.self.invariant.different ∙ sym (different-counted c.self.inside.counts.entries c.self.inside.nulls c.self.invariant.are))
