use Rattle.cq_binder_expressions.proofs.Narrow.{arguments_are_narrow}
use Rattle.cq_binder_expressions.proofs.laws.arguments_are_narrow.Goals as goal

pub returns : goal.returns
returns c = arguments_are_narrow
