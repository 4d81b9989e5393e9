use Rattle.std.proofs.Common.{List, [], subst}
use Rattle.std.proofs.lemmas.List.{append-nil}
use Rattle.cq_plan.specs.Planned.{AreAllOwn, asked_below}
use Rattle.cq_plan.specs.declared.plans.PlannedSource.{PlannedSource}
use Rattle.cq_plan.proofs.planning.planned_sources.Goals as goal

-- behind the last source there is none
pub returns-clause-own : goal.returns-clause-own
returns-clause-own c =
    subst (λ (ss : List PlannedSource). AreAllOwn (asked_below c.args.below c.args.filter.now) 0 ss) (append-nil c.loop-wide.sources.items) (c.loop-wide.invariant.planned [] tt)
