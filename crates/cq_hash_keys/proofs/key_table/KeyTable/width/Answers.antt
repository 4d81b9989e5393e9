use Rattle.std.proofs.Common.{subst}
use Rattle.std.specs.List.{AllByRecursion}
use Rattle.cq_hash_keys.specs.Keys.{HasValues, StoredKeys}
use Rattle.cq_hash_keys.proofs.Tables.{are-keys}
use Rattle.cq_hash_keys.proofs.key_table.KeyTable.width.Goals as goal

pub returns-clause-wide : goal.returns-clause-wide
returns-clause-wide c =
    subst (λ (t : StoredKeys). AllByRecursion (HasValues t.width) t.keys) c.self.view_is
    (are-keys c.self.inside.width c.self.inside.is_met c.self.inside.first c.self.inside.stages.items c.self.invariant).wide
