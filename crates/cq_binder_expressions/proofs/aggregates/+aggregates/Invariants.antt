use Rattle.std.proofs.Common.{◌≡◌, drop, map}
use Rattle.std.specs.List.{list_any}
use Rattle.cq_sql_language.specs.Written.{written}
use Rattle.cq_binder_rules.specs.Grouping.{has_aggregate}
use Rattle.cq_binder_expressions.proofs.aggregates.+aggregates.Given as goal

-- an aggregate stands in one of the nodes that are left, or in none
abbrev pub invariant-any_has_aggregate-loop-node : goal.invariant-any_has_aggregate-loop-node
invariant-any_has_aggregate-loop-node l =
    list_any has_aggregate (map written (drop l.node-index l.nodes)) ≡ list_any has_aggregate (map written l.nodes)
