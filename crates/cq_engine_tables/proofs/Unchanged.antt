-- Views that stay the same.
use Rattle.std.proofs.Common.{refl}
use Rattle.cq_views.proofs.Standing.{same-itself}
use Rattle.cq_engine_tables.specs.Taking.{IsSame}
use Rattle.cq_engine_tables.specs.Views.{NamedView}

pub same_itself : (v : NamedView) → IsSame v v
same_itself v = record { name = refl; columns = refl; kept = same-itself v.kept }
