use Rattle.cq_binder_expressions.proofs.Typed.{typed_is_of_its_kind}
use Rattle.cq_binder_expressions.proofs.laws.typed_is_of_its_kind.Goals as goal

pub returns : goal.returns
returns c = typed_is_of_its_kind
