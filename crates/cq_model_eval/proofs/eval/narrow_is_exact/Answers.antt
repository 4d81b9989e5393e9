use Rattle.cq_model_eval.proofs.Exact as exact
use Rattle.cq_model_eval.proofs.eval.narrow_is_exact.Goals as goal

pub returns-clause-expressions : goal.returns-clause-expressions
returns-clause-expressions c = exact.narrow_is_exact

pub returns-clause-conditions : goal.returns-clause-conditions
returns-clause-conditions c = exact.narrow_is_exact_in
