use Rattle.cq_model_bags.proofs.Sizes.{size-respects, pairs_met-respects, size-clean, pairs-clean}
use Rattle.cq_model_bags.proofs.laws.sizes_depend_on_bag.Goals as goal

pub returns : goal.returns
returns c = record { same_size = size-respects; same_pairs = pairs_met-respects; merged_size = size-clean; merged_pairs = pairs-clean }
