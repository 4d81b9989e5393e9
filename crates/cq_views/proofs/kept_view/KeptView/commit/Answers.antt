use Rattle.cq_views.proofs.Standing.{all-taken}
use Rattle.cq_views.proofs.kept_view.KeptView.commit.Goals as goal

pub returns-clause-takes : goal.returns-clause-takes
returns-clause-takes c = all-taken c.args.self.now c.commit.new.self c.commit.ensures.query c.commit.ensures.widths c.args.pending c.commit.ensures.takes
