use Rattle.cq_sql_tokens.proofs.Splits.{closed_pieces_fit}
use Rattle.cq_sql_tokens.proofs.laws.closed_pieces_fit.Goals as goal

pub returns : goal.returns
returns c = closed_pieces_fit
