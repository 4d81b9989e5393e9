use Rattle.std.proofs.Common.{◌≡◌, ◌++◌, List, map, take}
use Rattle.cq_plan.specs.Planned.{AreAllOwn, asked_below}
use Rattle.cq_plan.specs.declared.plans.PlannedSource.{PlannedSource}
use Rattle.cq_plan.proofs.planning.planned_sources.Given as goal

-- the sources so far have their columns, and with those behind them that are planned all are
abbrev pub invariant-loop-wide : goal.invariant-loop-wide
invariant-loop-wide l = record {
  planned : (more : List PlannedSource) → AreAllOwn (asked_below l.below l.filter) l.before more
      → AreAllOwn (asked_below l.below l.filter) 0 (l.sources.items ++ more);
  wide : map (λ source. source.wide) l.sources.items ≡ take l.wide-index l.widths;
}
