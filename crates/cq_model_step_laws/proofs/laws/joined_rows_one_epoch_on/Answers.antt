use Rattle.cq_model_step_laws.proofs.Pasts.{joined-next}
use Rattle.cq_model_step_laws.proofs.laws.joined_rows_one_epoch_on.Goals as goal

pub returns : goal.returns
returns c = joined-next
