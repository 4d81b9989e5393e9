use Rattle.std.proofs.Common.{◌∙◌}
use Rattle.cq_deltas_joins.specs.Sources.{rows_at}
use Rattle.cq_views_state.proofs.Standing.{gained}
use Rattle.cq_views_state.proofs.build.ViewBuild.take_in.Goals as goal

pub returns-clause-gains : goal.returns-clause-gains
returns-clause-gains c =
    rw (← c.self.view_is)
    (gained c.self.inside.state (rows_at c.args.changes.items) c.prepare.new.self c.put.new.self c.in_ok-pending.pending
    c.prepare.ensures.same c.in_ok-pending.ensures.waiting c.put.ensures.takes
    c.put.ensures.query c.put.ensures.widths (c.put.ensures.epoch ∙ c.prepare.ensures.same.epoch) c.put.ensures.built)
