use Rattle.std.proofs.Common.{length, refl}
use Rattle.cq_model_bags.proofs.Widths.{weight_of-pair}
use Rattle.cq_model_bags.proofs.laws.joined_weight.Goals as goal

pub returns : goal.returns
returns c = λ on xs ys r s wide. weight_of-pair on xs ys (length r) r s wide refl
