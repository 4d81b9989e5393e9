use Rattle.cq_views_state.proofs.Working.{counts-within_work}
use Rattle.cq_views_state.proofs.laws.counts_are_within_work.Goals as goal

pub returns : goal.returns
returns c = counts-within_work
