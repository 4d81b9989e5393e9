use Rattle.std.proofs.Common.{ℕ, List, [], sym, subst}
use Rattle.cq_hash_keys.specs.Keys.{StoredKeys}
use Rattle.cq_hash_groups_distinct.specs.Sets.{AreCounted}
use Rattle.cq_hash_groups_distinct.proofs.SetsPut.{none-counted}
use Rattle.cq_hash_groups_distinct.proofs.value_sets.ValueSets.new.Goals as goal

pub invariant_of-result : goal.invariant_of-result
invariant_of-result c =
    subst (λ (counts : List ℕ). AreCounted c.new.result.width c.new.result.keys counts) (sym c.new-2.ensures.items)
    (subst (λ (t : StoredKeys). AreCounted t.width t.keys []) (sym c.new.ensures) none-counted)
