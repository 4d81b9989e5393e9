use Rattle.cq_model_laws.proofs.Meanings.{meaning-same}
use Rattle.cq_model_laws.proofs.Ranges.{range-same}
use Rattle.cq_model_laws.proofs.laws.meaning_depends_on_sources.Goals as goal

pub returns : goal.returns
returns c = λ q tables others same. record { bag = meaning-same q tables others same; range = range-same q tables others same }
