use Rattle.std.proofs.Common.{◌≡◌, take, drop}
use Rattle.cq_binder_rules.specs.Bound.{row_of}
use Rattle.cq_binder_rules.specs.Checks.{first_fault}
use Rattle.cq_binder_rules.specs.RowChecks.{constant_checks}
use Rattle.cq_binder.proofs.constants.filled_row.Given as goal

-- the values so far are those of the constants so far, and the constants that are left have the first fault of all
abbrev pub invariant-loop-i : goal.invariant-loop-i
invariant-loop-i l =
    (l.row ≡ row_of (take l.i l.constants))
    × (first_fault (constant_checks (drop l.i l.columns) (drop l.i l.constants)) ≡ first_fault (constant_checks l.columns l.constants))
