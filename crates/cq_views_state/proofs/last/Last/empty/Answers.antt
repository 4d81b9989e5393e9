use Rattle.cq_views_state.proofs.Behind.{groups-start}
use Rattle.cq_views_state.proofs.last.Last.empty.Goals as goal

pub returns-in-Grouped : goal.returns-in-Grouped
returns-in-Grouped c = groups-start c.args.query.now c.new-in-Grouped.result _ _ _ c.in-Grouped.is c.new-in-Grouped.ensures
