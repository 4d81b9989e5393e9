use Rattle.cq_binder_expressions.proofs.Narrow.{typed_is_narrow}
use Rattle.cq_binder_expressions.proofs.laws.typed_is_narrow.Goals as goal

pub returns : goal.returns
returns c = typed_is_narrow
