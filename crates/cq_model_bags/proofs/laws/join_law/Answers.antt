use Rattle.cq_model_bags.proofs.Joins.{join-law}
use Rattle.cq_model_bags.proofs.laws.join_law.Goals as goal

pub returns : goal.returns
returns c = join-law
