use Rattle.cq_model_laws.proofs.GroupSizes.{groups-keep-sizes}
use Rattle.cq_model_laws.proofs.laws.groups_keep_sizes.Goals as goal

pub returns : goal.returns
returns c = groups-keep-sizes
