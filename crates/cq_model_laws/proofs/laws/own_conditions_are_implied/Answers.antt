use Rattle.cq_model_laws.proofs.Own.{own-implied}
use Rattle.cq_model_laws.proofs.laws.own_conditions_are_implied.Goals as goal

pub returns : goal.returns
returns c = own-implied
