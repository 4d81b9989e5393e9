use Rattle.cq_views_state.proofs.Standing.{taken-further}
use Rattle.cq_views_state.proofs.state.ViewState.commit.Goals as goal

pub returns-clause-takes : goal.returns-clause-takes
returns-clause-takes c = taken-further c.args.self.now c.put.new.self c.args.pending c.put.ensures.takes
