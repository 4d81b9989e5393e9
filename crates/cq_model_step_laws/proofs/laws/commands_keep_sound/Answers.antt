use Rattle.cq_model_step_laws.proofs.Follows.{follows-accepts}
use Rattle.cq_model_step_laws.proofs.laws.commands_keep_sound.Goals as goal

pub returns : goal.returns
returns c = λ old new command answer sound fits a. (follows-accepts old new command answer sound fits a).sound
