use Rattle.cq_sql_expressions.proofs.Conditions.{expression_read, no_expression_read}
use Rattle.cq_sql_expressions.proofs.whole.expression_of.Goals as goal

pub returns-clause-tree : goal.returns-clause-tree
returns-clause-tree c = expression_read c.whole_expression.result c.args.tokens.now c.whole_expression.ensures

pub returns-clause-no_tree : goal.returns-clause-no_tree
returns-clause-no_tree c = no_expression_read c.whole_expression.result c.args.tokens.now c.whole_expression.ensures
