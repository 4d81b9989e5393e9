use Rattle.std.proofs.Common.{◌≡◌, drop}
use Rattle.std.specs.List.{flat_map}
use Rattle.cq_binder_rules.specs.Checks.{first_fault}
use Rattle.cq_binder_rules.specs.UpdateChecks.{value_checks}
use Rattle.cq_table.proofs.images.check_values.Given as goal

-- the assignments that are left have the first fault of all
abbrev pub invariant-loop-assignment : goal.invariant-loop-assignment
invariant-loop-assignment l =
    first_fault (flat_map (value_checks l.columns l.rows) (drop l.assignment-index l.assignments))
    ≡ first_fault (flat_map (value_checks l.columns l.rows) l.assignments)
