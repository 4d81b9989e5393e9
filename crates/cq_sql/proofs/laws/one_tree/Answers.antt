use Rattle.cq_sql.proofs.Trees.{one_statement}
use Rattle.cq_sql.proofs.laws.one_tree.Goals as goal

pub returns : goal.returns
returns c = one_statement
