use Rattle.cq_model_laws.proofs.Positives.{meaning-bag}
use Rattle.cq_model_laws.proofs.laws.meaning_is_bag.Goals as goal

pub returns : goal.returns
returns c = meaning-bag
