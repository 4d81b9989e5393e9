-- The expression that a tree of the code stands for: its chains group to the left.
use Rattle.std.specs.Prelude.{map, fold}
use Rattle.cq_model.specs.declared.expr.ExprTree.{ExprTree}
use Rattle.cq_model.specs.declared.expr.ExprTree.TheOpen as node
use Rattle.cq_model.specs.declared.expr.ExprTree.TheFolds.{fold-ExprTree}
use Rattle.cq_model.specs.declared.expr.CondTree.{CondTree}
use Rattle.cq_model.specs.declared.expr.CondTree.TheOpen as cond_node
use Rattle.cq_model.specs.declared.expr.CondTree.TheFolds.{fold-CondTree}
use Rattle.cq_model.specs.Expr.{Expr, Column, Literal, Negate, Plus, Times, Extract, Cond, Compare, IsNull, Between, In, Like, Not, And, Or}

-- one node of an expression, with what its parts stand for
abbrev pub expr_step : node.ExprTree-F Expr → Expr
expr_step (node.Column i) = Column i
expr_step (node.Literal v) = Literal v
expr_step (node.Negate e) = Negate e.value
expr_step (node.Sum e es) = fold Plus e.value es.items
expr_step (node.Product e es) = fold Times e.value es.items
expr_step (node.Extract part e) = Extract part e.value

-- the expression of a tree
abbrev pub expr_of : ExprTree → Expr
expr_of = fold-ExprTree Expr expr_step

-- one node of a condition, with what its parts stand for
abbrev pub cond_step : cond_node.CondTree-F Cond → Cond
cond_step (cond_node.Compare c a b) = Compare c (expr_of a) (expr_of b)
cond_step (cond_node.IsNull e) = IsNull (expr_of e)
cond_step (cond_node.Between e a b) = Between (expr_of e) (expr_of a) (expr_of b)
cond_step (cond_node.In e es) = In (expr_of e) (map expr_of es.items)
cond_step (cond_node.Like e pattern) = Like (expr_of e) pattern
cond_step (cond_node.Not c) = Not c.value
cond_step (cond_node.And c cs) = fold And c.value cs.items
cond_step (cond_node.Or c cs) = fold Or c.value cs.items

-- the condition of a tree
abbrev pub cond_of : CondTree → Cond
cond_of = fold-CondTree Cond cond_step
