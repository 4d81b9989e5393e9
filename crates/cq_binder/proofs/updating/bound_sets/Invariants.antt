use Rattle.std.proofs.Common.{◌≡◌, [], take, drop}
use Rattle.cq_binder_rules.specs.Checks.{first_fault}
use Rattle.cq_binder_rules.specs.Sets.{bound_sets}
use Rattle.cq_binder_rules.specs.UpdateChecks.{set_checks}
use Rattle.cq_binder_expressions.specs.Expressions.{scope_of}
use Rattle.cq_binder.proofs.updating.bound_sets.Given as goal

-- the assignments so far are bound, and those that are left have the first fault of all
abbrev pub invariant-loop-i : goal.invariant-loop-i
invariant-loop-i l =
    (l.assignments ≡ bound_sets (scope_of l.scope) (take l.i l.sets))
    × (first_fault (set_checks (scope_of l.scope) (take l.i l.sets) (drop l.i l.sets)) ≡ first_fault (set_checks (scope_of l.scope) [] l.sets))
