use Rattle.cq_sql.proofs.Trees.{tree_read, no_tree_read}
use Rattle.cq_sql.proofs.grammar.tree_of.Goals as goal

pub returns-clause-tree : goal.returns-clause-tree
returns-clause-tree c = tree_read c.whole_statement.result c.args.tokens.now c.whole_statement.ensures

pub returns-clause-no_tree : goal.returns-clause-no_tree
returns-clause-no_tree c = no_tree_read c.whole_statement.result c.args.tokens.now c.whole_statement.ensures
