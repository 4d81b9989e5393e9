use Rattle.std.proofs.Common.{◌≡◌, map, take, drop}
use Rattle.std.specs.List.{flat_map}
use Rattle.cq_binder_rules.specs.Bound.{row_of}
use Rattle.cq_binder_rules.specs.Checks.{first_fault}
use Rattle.cq_binder_rules.specs.RowChecks.{row_checks}
use Rattle.cq_binder.proofs.writing.bound_rows.Given as goal

-- the rows so far are made, and those that are left have the first fault of all
abbrev pub invariant-loop-place : goal.invariant-loop-place
invariant-loop-place l =
    (l.made.items ≡ map row_of (take l.place l.rows))
    × (first_fault (flat_map (row_checks l.columns) (drop l.place l.rows)) ≡ first_fault (flat_map (row_checks l.columns) l.rows))
