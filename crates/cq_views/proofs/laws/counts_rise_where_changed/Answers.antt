use Rattle.cq_views.proofs.Rising.{rises-where_bag_changes}
use Rattle.cq_views.proofs.laws.counts_rise_where_changed.Goals as goal

pub returns : goal.returns
returns c = rises-where_bag_changes
