use Rattle.cq_model_core.proofs.Cores.{core-told}
use Rattle.cq_model_core.proofs.laws.core_is_told.Goals as goal

pub returns : goal.returns
returns c = core-told
