use Rattle.cq_views_state.proofs.Standing.{all-taken}
use Rattle.cq_views_state.proofs.state.ViewState.put.Goals as goal

pub returns-clause-takes : goal.returns-clause-takes
returns-clause-takes c = all-taken c.args.self.now c.take.new.self c.commit.new.self c.args.pending c.take.ensures.takes c.commit.ensures
