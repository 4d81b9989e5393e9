use Rattle.cq_operators.specs.Selected.{rows_of_all}
use Rattle.cq_test_queries.proofs.Plans.{can-open}
use Rattle.cq_test_queries.proofs.tests.opened.given_in.Goals as goal

pub open-exec-requires : goal.open-exec-requires
open-exec-requires c =
    can-open c.args.query.now c.requires.always c.args.order.now c.args.widths.now c.in_ok-planned.planned c.in_ok-planned.ensures.is (rows_of_all c.args.inputs.now) c.requires.wide
