use Rattle.cq_model_bags.proofs.Distincts.{weight_of-distinct}
use Rattle.cq_model_bags.proofs.laws.distinct_weight.Goals as goal

pub returns : goal.returns
returns c = weight_of-distinct
