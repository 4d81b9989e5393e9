use Rattle.cq_views_state.proofs.Widths.{arguments-narrow}
use Rattle.cq_views_state.proofs.grouping.GroupTakerTakes.take.Goals as goal
use Rattle.cq_views_model.specs.Query.{aggregates_of}

pub ready-requires-clause-narrow : goal.ready-requires-clause-narrow
ready-requires-clause-narrow c =
    let query = c.args.self.now.query.now in
    rw c.aggregates_of-aggregates.ensures (arguments-narrow c.args.row.now c.requires.stored (aggregates_of query) c.requires.can.arguments)
