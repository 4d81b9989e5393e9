use Rattle.cq_views.proofs.Filled.{cut-start}
use Rattle.cq_views.specs.Filling.{bags_at}
use Rattle.cq_views.proofs.kept_view.built_state.Goals as goal

pub filled-state-requires : goal.filled-state-requires
filled-state-requires c =
    rw c.as_slice.ensures
    (cut-start c.args.query.now c.args.widths.now c.in_ok-query.field-0 c.in_ok-query.ensures (bags_at c.args.tables.now) c.requires.start)
