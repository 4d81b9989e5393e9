use Rattle.cq_sql_expressions.proofs.Conditions.{one_expression}
use Rattle.cq_sql_expressions.proofs.laws.one_expression.Goals as goal

pub returns : goal.returns
returns c = one_expression
