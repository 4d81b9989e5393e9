-- Kinds of nodes, each by the node alone.
use Rattle.std.specs.Prelude.{Bool, false, true}
use Rattle.cq_model.specs.declared.expr.CondTree.{CondTree}
use Rattle.cq_model.specs.declared.expr.CondTree.TheFolds.{fold-CondTree}
use Rattle.cq_model.specs.declared.expr.CondTree.TheOpen as cond_node
use Rattle.cq_model.specs.declared.expr.ExprTree.{ExprTree}
use Rattle.cq_model.specs.declared.expr.ExprTree.TheFolds.{fold-ExprTree}
use Rattle.cq_model.specs.declared.expr.ExprTree.TheOpen as node

abbrev pub operation_step : node.ExprTree-F Bool → Bool
operation_step (node.Negate e) = true
operation_step (node.Sum e es) = true
operation_step (node.Product e es) = true
operation_step (node.Extract part e) = true
operation_step n = false

-- whether a node works a value out of others: a negation, a sum, a product or EXTRACT
abbrev pub is_operation : ExprTree → Bool
is_operation = fold-ExprTree Bool operation_step

abbrev pub connective_step : cond_node.CondTree-F Bool → Bool
connective_step (cond_node.Not c) = true
connective_step (cond_node.And c cs) = true
connective_step (cond_node.Or c cs) = true
connective_step n = false

-- whether a node is made of conditions: NOT, AND or OR
abbrev pub is_connective : CondTree → Bool
is_connective = fold-CondTree Bool connective_step
