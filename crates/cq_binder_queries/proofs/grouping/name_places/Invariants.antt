use Rattle.std.proofs.Common.{◌≡◌, map, take, drop}
use Rattle.cq_binder_rules.specs.Places.{group_places}
use Rattle.cq_binder_rules.specs.Checks.{first_fault}
use Rattle.cq_binder_rules.specs.SourceChecks.{group_check}
use Rattle.cq_binder_queries.proofs.grouping.name_places.Given as goal

-- the places so far are those of the names so far, and the names that are left have the first fault of all
abbrev pub invariant-loop-name : goal.invariant-loop-name
invariant-loop-name l =
    (l.places ≡ group_places l.columns (take l.name-index l.names))
    × (first_fault (map (group_check l.columns) (drop l.name-index l.names)) ≡ first_fault (map (group_check l.columns) l.names))
