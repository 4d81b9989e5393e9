use Rattle.cq_model_laws.proofs.Meanings.{joined_rows-changed}
use Rattle.cq_model_laws.proofs.laws.joined_rows_go_on.Goals as goal

pub returns : goal.returns
returns c = joined_rows-changed
