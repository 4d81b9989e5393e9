use Rattle.std.proofs.Common.{rules}
use Rattle.cq_binder_queries.proofs.Shapes.{any_shown}
use Rattle.cq_binder_queries.proofs.grouping.is_grouped.Goals as goal

pub returns-else-is_some : goal.returns-else-is_some
returns-else-is_some c = search (rules, any_shown)
