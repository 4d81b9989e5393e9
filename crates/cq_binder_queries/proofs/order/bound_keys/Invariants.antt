use Rattle.std.proofs.Common.{◌≡◌, take, drop}
use Rattle.cq_binder_rules.specs.Checks.{first_fault}
use Rattle.cq_binder_rules.specs.Orders.{key_checks, sort_keys}
use Rattle.cq_binder_queries.proofs.order.bound_keys.Given as goal

-- the keys so far are those that were walked through, and the keys that are left have the first fault of all
abbrev pub invariant-loop-key : goal.invariant-loop-key
invariant-loop-key l =
    (l.keys ≡ sort_keys l.names (take l.key-index l.order))
    × (first_fault (key_checks l.names (drop l.key-index l.order)) ≡ first_fault (key_checks l.names l.order))
