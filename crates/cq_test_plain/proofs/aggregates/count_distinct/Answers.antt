use Rattle.std.proofs.Common.{rules}
use Rattle.cq_test_plain.proofs.ListedAggregates.{counted_once}
use Rattle.cq_test_plain.proofs.aggregates.count_distinct.Goals as goal

pub returns-clause-ok : goal.returns-clause-ok
returns-clause-ok c = search (rules, counted_once c.args.expr.now c.args.rows.now)
