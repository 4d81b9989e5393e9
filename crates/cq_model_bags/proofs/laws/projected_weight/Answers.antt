use Rattle.cq_model_bags.proofs.Linears.{weight_of-projected}
use Rattle.cq_model_bags.proofs.laws.projected_weight.Goals as goal

pub returns : goal.returns
returns c = weight_of-projected
