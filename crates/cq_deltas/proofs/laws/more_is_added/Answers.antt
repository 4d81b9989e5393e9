use Rattle.std.proofs.Common.{refl}
use Rattle.cq_deltas.specs.Extremes.{with_more}
use Rattle.cq_deltas.proofs.Writes.{more-added}
use Rattle.cq_deltas.proofs.laws.more_is_added.Goals as goal

pub returns : goal.returns
returns c = λ r w xs. more-added r w xs (with_more r w xs) refl
