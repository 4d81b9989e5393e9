use Rattle.cq_model_laws.proofs.Counted.{kept-shows}
use Rattle.cq_model_laws.proofs.laws.kept_shows.Goals as goal

pub returns : goal.returns
returns c = kept-shows
