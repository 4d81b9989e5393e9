use Rattle.std.proofs.Common.{◌≡◌, map, drop}
use Rattle.cq_binder_rules.specs.Headers.{shown_by}
use Rattle.cq_binder_rules.specs.Checks.{first_fault}
use Rattle.cq_binder_expressions.specs.Expressions.{scope_of}
use Rattle.cq_binder_queries.specs.Items.{item_check}
use Rattle.cq_binder_queries.proofs.BoundItems.{AreBoundUpTo}
use Rattle.cq_binder_queries.proofs.items.bound_items.Given as goal

-- the items so far are bound, and those that are left have the first fault of all
abbrev pub invariant-loop-item : goal.invariant-loop-item
invariant-loop-item l =
    AreBoundUpTo (scope_of l.scope) l.initial.aggregates (shown_by l.items) (shown_by (drop l.item-index l.items)) l.aggregates l.values
    × (first_fault (map (item_check l.purpose (scope_of l.scope)) (shown_by (drop l.item-index l.items))) ≡ first_fault (map (item_check l.purpose (scope_of l.scope)) (shown_by l.items)))
