use Rattle.cq_views.proofs.Working.{counts-within}
use Rattle.cq_views.proofs.laws.counts_are_within_work.Goals as goal

pub returns : goal.returns
returns c = counts-within
