use Rattle.cq_model_step_laws.proofs.Follows.{new-empty}
use Rattle.cq_model_step_laws.proofs.laws.new_table_is_empty_before.Goals as goal

pub returns : goal.returns
returns c = new-empty
