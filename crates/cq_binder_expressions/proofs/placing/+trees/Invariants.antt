use Rattle.std.proofs.Common.{drop}
use Rattle.std.specs.Iterator.Adapters.{zip_first, zip_second}
use Rattle.std.specs.Slice.Iter.{iter_rest}
use Rattle.cq_model.specs.Trees.{cond_of, expr_of}
use Rattle.cq_binder_rules.specs.Placed.{placed_cond, placed_expr}
use Rattle.cq_binder_expressions.specs.Expressions.{scope_of}
use Rattle.cq_binder_expressions.proofs.Places.{Makes, MakesTerms}
use Rattle.cq_binder_expressions.proofs.placing.+trees.Given as goal

-- the values so far and those of the nodes that are left make the whole
abbrev pub invariant-value_trees-loop-node : goal.invariant-value_trees-loop-node
invariant-value_trees-loop-node l = Makes expr_of placed_expr (scope_of l.scope) l.fn.aggregates l.nodes l.trees.items l.aggregates (drop l.node-index l.nodes)

-- the terms so far and those that are left make the whole
abbrev pub invariant-term_trees-loop-sign : goal.invariant-term_trees-loop-sign
invariant-term_trees-loop-sign l =
    MakesTerms (scope_of l.scope) l.fn.aggregates l.signs l.nodes l.terms.items l.aggregates (iter_rest (zip_first l.sign-iterator)) (iter_rest (zip_second l.sign-iterator))

-- the conditions so far and those of the nodes that are left make the whole
abbrev pub invariant-condition_trees-loop-node : goal.invariant-condition_trees-loop-node
invariant-condition_trees-loop-node l = Makes cond_of placed_cond (scope_of l.scope) l.fn.aggregates l.nodes l.trees.items l.aggregates (drop l.node-index l.nodes)
