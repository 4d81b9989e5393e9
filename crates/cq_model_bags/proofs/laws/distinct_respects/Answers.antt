use Rattle.cq_model_bags.proofs.Distincts.{distinct-respects}
use Rattle.cq_model_bags.proofs.laws.distinct_respects.Goals as goal

pub returns : goal.returns
returns c = distinct-respects
