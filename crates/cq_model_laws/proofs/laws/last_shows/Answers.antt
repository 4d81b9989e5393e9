use Rattle.cq_model_laws.proofs.Shown.{last-shown}
use Rattle.cq_model_laws.proofs.laws.last_shows.Goals as goal

pub returns : goal.returns
returns c = λ q. last-shown q q.shape
