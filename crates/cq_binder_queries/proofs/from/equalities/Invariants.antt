use Rattle.std.proofs.Common.{◌≡◌, map, take, drop}
use Rattle.cq_binder_rules.specs.Checks.{first_fault}
use Rattle.cq_binder_rules.specs.From.{equality_check, equality_of}
use Rattle.cq_binder_queries.proofs.from.equalities.Given as goal

-- the equalities so far are bound, and those that are left have the first fault of all
abbrev pub invariant-loop-each : goal.invariant-loop-each
invariant-loop-each l =
    (l.equalities ≡ map (equality_of l.columns l.before) (take l.each-index l.on))
    × (first_fault (map (equality_check l.columns l.before) (drop l.each-index l.on)) ≡ first_fault (map (equality_check l.columns l.before) l.on))
