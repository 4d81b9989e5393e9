use Rattle.std.proofs.Common.{◌≡◌, [], take, drop}
use Rattle.cq_binder_rules.specs.Checks.{first_fault}
use Rattle.cq_binder_rules.specs.Refusal.{column_checks}
use Rattle.cq_binder_queries.proofs.lists.check_names.Given as goal

-- the columns that are left have the first fault of all
abbrev pub invariant-loop-i : goal.invariant-loop-i
invariant-loop-i l = first_fault (column_checks (take l.i l.columns) (drop l.i l.columns)) ≡ first_fault (column_checks [] l.columns)
