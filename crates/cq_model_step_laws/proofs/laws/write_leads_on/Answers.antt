use Rattle.cq_model_step_laws.proofs.Pasts.{leads_on}
use Rattle.cq_model_step_laws.proofs.laws.write_leads_on.Goals as goal

pub returns : goal.returns
returns c = leads_on
