use Rattle.std.proofs.Common.{◌<◌, ◌≤◌, List, length, subst, sym}
use Rattle.cq_hash_keys.specs.declared.stage.Stage.{Stage}
use Rattle.cq_hash_keys.specs.Keys.{StoredKeys}
use Rattle.cq_hash_keys.proofs.Tables.{columns-long}
use Rattle.cq_hash_keys.proofs.key_table.KeyTable.lend.Goals as goal

pub lend_value-requires-clause-column : goal.lend_value-requires-clause-column
lend_value-requires-clause-column c =
    subst (λ (ss : List Stage). c.args.column ≤ length ss) (sym c.as_slice.ensures.value)
    (columns-long c.self.inside.width c.self.inside.is_met c.self.inside.first c.self.inside.stages.items c.self.invariant c.args.key c.args.column
    (subst (λ (t : StoredKeys). c.args.key < length t.keys) (sym c.self.view_is) c.requires.key)
    (subst (λ (t : StoredKeys). c.args.column < t.width) (sym c.self.view_is) c.requires.column))
