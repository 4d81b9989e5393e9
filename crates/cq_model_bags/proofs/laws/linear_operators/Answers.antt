use Rattle.cq_model_bags.proofs.Linears.{filtered-linear, projected-linear}
use Rattle.cq_model_bags.proofs.laws.linear_operators.Goals as goal

pub returns : goal.returns
returns c = (filtered-linear, projected-linear)
