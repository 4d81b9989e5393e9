use Rattle.cq_views.proofs.Works.{work-by_sources}
use Rattle.cq_views.proofs.laws.work_depends_on_sources.Goals as goal

pub returns : goal.returns
returns c = work-by_sources
