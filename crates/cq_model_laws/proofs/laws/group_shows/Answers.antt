use Rattle.cq_model_laws.proofs.Counted.{group-shows}
use Rattle.cq_model_laws.proofs.laws.group_shows.Goals as goal

pub returns : goal.returns
returns c = group-shows
