use Rattle.cq_views_state.proofs.Standing.{same-view}
use Rattle.cq_views_model.specs.Query.{aggregates_of}
use Rattle.cq_views_state.proofs.state.ViewState.uncounted.Goals as goal

pub returns-clause-same : goal.returns-clause-same
returns-clause-same c =
    same-view c.args.self c.uncounted.result c.sort.new.self c.uncounted.ensures.still (c.sort.ensures (aggregates_of c.args.self.query)) 0
