use Rattle.cq_model_laws.proofs.Meanings.{meaning-respects}
use Rattle.cq_model_laws.proofs.Ranges.{range-respects}
use Rattle.cq_model_laws.proofs.laws.meaning_depends_on_bags.Goals as goal

pub returns : goal.returns
returns c = λ q tables others same. record { bag = meaning-respects q tables others same; range = range-respects q tables others same }
