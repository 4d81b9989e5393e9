-- The two forms in which the sums of all groups are kept.
use Rattle.std.specs.Prelude.{List}
use Rattle.cq_hash_groups_sums.specs.declared.sums.Width.{Width}
use Rattle.cq_hash_groups_sums.specs.declared.sums.Width.TheVariants.{Small, Wide}
use Rattle.cq_hash_groups_sums.specs.declared.wide_sums.Sum.{Sum}

-- the sum of each group, in whichever form
abbrev pub sums_in : Width → List Sum
sums_in (Small sums) = sums
sums_in (Wide sums) = sums
