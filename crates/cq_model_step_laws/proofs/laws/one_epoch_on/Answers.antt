use Rattle.cq_model_step_laws.proofs.Pasts.{goes_one_on}
use Rattle.cq_model_step_laws.proofs.laws.one_epoch_on.Goals as goal

pub returns : goal.returns
returns c = goes_one_on
