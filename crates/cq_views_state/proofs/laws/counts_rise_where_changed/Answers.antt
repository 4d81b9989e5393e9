use Rattle.cq_views_state.proofs.Working.{rises-where_changed}
use Rattle.cq_views_state.proofs.laws.counts_rise_where_changed.Goals as goal

pub returns : goal.returns
returns c = rises-where_changed
