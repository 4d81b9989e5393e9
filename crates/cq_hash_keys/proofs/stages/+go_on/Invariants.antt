use Rattle.std.proofs.Common.{length}
use Rattle.cq_hash_keys.proofs.stages.+go_on.Given as goal

-- the stages that are left
abbrev pub decreases-go_on : goal.decreases-go_on
decreases-go_on l = length l.stages.now
