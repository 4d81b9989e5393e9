use Rattle.cq_views.proofs.Standing.{standing-by_bags}
use Rattle.cq_views.proofs.laws.standing_depends_on_sources.Goals as goal

pub returns : goal.returns
returns c = standing-by_bags
