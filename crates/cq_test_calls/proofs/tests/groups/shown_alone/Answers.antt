use Rattle.cq_deltas.specs.Keyed.{additions_at}
use Rattle.cq_deltas.proofs.Small.{first-hold}
use Rattle.cq_test_calls.proofs.tests.groups.shown_alone.Goals as goal

pub take-requires-clause-holds : goal.take-requires-clause-holds
take-requires-clause-holds c =
    rw c.open.ensures.same (first-hold c.args.aggregates.now c.args.groups (additions_at c.args.groups c.args.change) c.requires.none c.requires.small)
