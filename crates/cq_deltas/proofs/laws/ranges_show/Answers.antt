use Rattle.cq_deltas.proofs.Small.{ranges-show}
use Rattle.cq_deltas.proofs.laws.ranges_show.Goals as goal

pub returns : goal.returns
returns c = ranges-show
