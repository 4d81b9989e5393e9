use Rattle.std.proofs.Common.{length}
use Rattle.cq_hash_keys.proofs.stages.+find_on.Given as goal

-- the stages that are left
abbrev pub decreases-find_on : goal.decreases-find_on
decreases-find_on l = length l.stages.now
