use Rattle.std.proofs.Common.{◌≡◌, [], map, take, drop}
use Rattle.cq_binder_rules.specs.Scopes.{place_in}
use Rattle.cq_binder_rules.specs.Checks.{first_fault}
use Rattle.cq_binder_rules.specs.Refusal.{sort_checks}
use Rattle.cq_binder.proofs.columns.sort_columns.Given as goal

-- the places so far are those of the names so far, and the names that are left have the first fault of all
abbrev pub invariant-loop-i : goal.invariant-loop-i
invariant-loop-i l =
    (l.places ≡ map (place_in l.columns) (take l.i l.names))
    × (first_fault (sort_checks l.columns (take l.i l.names) (drop l.i l.names)) ≡ first_fault (sort_checks l.columns [] l.names))
