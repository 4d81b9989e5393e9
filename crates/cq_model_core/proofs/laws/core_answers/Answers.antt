use Rattle.cq_model_core.proofs.Views.{core-answers}
use Rattle.cq_model_core.proofs.laws.core_answers.Goals as goal

pub returns : goal.returns
returns c = core-answers
