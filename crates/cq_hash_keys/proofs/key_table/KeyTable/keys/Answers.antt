use Rattle.std.proofs.Common.{subst}
use Rattle.cq_hash_keys.specs.Keys.{AreKeys, StoredKeys}
use Rattle.cq_hash_keys.proofs.Tables.{are-keys}
use Rattle.cq_hash_keys.proofs.key_table.KeyTable.keys.Goals as goal

pub returns-in_err-reserve-clause-once : goal.returns-in_err-reserve-clause-once
returns-in_err-reserve-clause-once c =
    subst (λ (t : StoredKeys). AreKeys t.width t.keys) c.self.view_is (are-keys c.self.inside.width c.self.inside.is_met c.self.inside.first c.self.inside.stages.items c.self.invariant)

pub returns-in_err-key-clause-once : goal.returns-in_err-key-clause-once
returns-in_err-key-clause-once c =
    subst (λ (t : StoredKeys). AreKeys t.width t.keys) c.self.view_is (are-keys c.self.inside.width c.self.inside.is_met c.self.inside.first c.self.inside.stages.items c.self.invariant)

pub returns-clause-once : goal.returns-clause-once
returns-clause-once c =
    subst (λ (t : StoredKeys). AreKeys t.width t.keys) c.self.view_is (are-keys c.self.inside.width c.self.inside.is_met c.self.inside.first c.self.inside.stages.items c.self.invariant)
