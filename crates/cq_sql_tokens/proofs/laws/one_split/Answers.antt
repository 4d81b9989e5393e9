use Rattle.cq_sql_tokens.proofs.Splits.{one_split}
use Rattle.cq_sql_tokens.proofs.laws.one_split.Goals as goal

pub returns : goal.returns
returns c = one_split
