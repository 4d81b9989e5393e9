use Rattle.cq_model_step_laws.proofs.Follows.{follows-accepts}
use Rattle.cq_model_step_laws.proofs.laws.earlier_epochs_stay.Goals as goal

pub returns : goal.returns
returns c = λ old new command answer epoch n sound fits a there low high. (follows-accepts old new command answer sound fits a).stays epoch n low high there
