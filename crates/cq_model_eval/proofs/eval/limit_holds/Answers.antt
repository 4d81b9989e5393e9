use Rattle.cq_model_eval.proofs.Limits as limits
use Rattle.cq_model_eval.proofs.eval.limit_holds.Goals as goal

pub returns-clause-expressions : goal.returns-clause-expressions
returns-clause-expressions c = limits.limit_holds

pub returns-clause-conditions : goal.returns-clause-conditions
returns-clause-conditions c = limits.limit_holds_in
