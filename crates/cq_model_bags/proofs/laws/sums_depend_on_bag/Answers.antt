use Rattle.cq_model_bags.proofs.Totals.{total-respects}
use Rattle.cq_model_bags.proofs.laws.sums_depend_on_bag.Goals as goal

pub returns : goal.returns
returns c = total-respects
