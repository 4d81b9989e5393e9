use Rattle.std.proofs.Common.{length}
use Rattle.cq_hash_keys.proofs.stages.+lend_value.Given as goal

-- the stages that are left
abbrev pub decreases-lend_value : goal.decreases-lend_value
decreases-lend_value l = length l.stages.now
