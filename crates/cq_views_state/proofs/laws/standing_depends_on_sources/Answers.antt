use Rattle.cq_views_state.proofs.SameBags.{standing-by_sources}
use Rattle.cq_views_state.proofs.laws.standing_depends_on_sources.Goals as goal

pub returns : goal.returns
returns c = standing-by_sources
