use Rattle.cq_sql_tokens.proofs.Cuts.{one_cut}
use Rattle.cq_sql_tokens.proofs.laws.one_cut.Goals as goal

pub returns : goal.returns
returns c = one_cut
