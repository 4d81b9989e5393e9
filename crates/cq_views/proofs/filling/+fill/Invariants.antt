use Rattle.std.proofs.Common.{length}
use Rattle.cq_views.proofs.filling.+fill.Given as goal

-- the tables that are left
abbrev pub decreases-fill : goal.decreases-fill
decreases-fill l = length l.tables.now
