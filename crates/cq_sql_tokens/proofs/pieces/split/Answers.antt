use Rattle.cq_sql_tokens.proofs.Splits.{has_pieces_of}
use Rattle.cq_sql_tokens.proofs.pieces.split.Goals as goal

pub returns : goal.returns
returns c = has_pieces_of c.args.script.now
