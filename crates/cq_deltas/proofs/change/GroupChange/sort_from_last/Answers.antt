use Rattle.std.proofs.Common.{nat_lt, rules}
use Rattle.std.proofs.lemmas.Fn.{always_returns_same}
use Rattle.std.proofs.lemmas.List.Sorted.{All-permutation, IsPermutation-map}
use Rattle.cq_deltas.specs.declared.change.SpannedRow.{SpannedRow}
use Rattle.cq_deltas.specs.Placed.{IsWithin, row_in}
use Rattle.cq_deltas.proofs.Leaving.{falls}
use Rattle.cq_deltas.proofs.SpannedRows.{rows-sorted}
use Rattle.cq_deltas.proofs.change.GroupChange.sort_from_last.Goals as goal

pub invariant_of-self : goal.invariant_of-self
invariant_of-self c =
    All-permutation (IsWithin c.self.inside.addends.items) c.self.inside.rows.items c.sort_unstable_by.new.self.items c.sort_unstable_by.ensures.permutation c.self.invariant

pub returns-clause-moved : goal.returns-clause-moved
returns-clause-moved c =
    rw (← c.self.view_is)
    (IsPermutation-map (row_in c.self.inside.addends.items) c.self.inside.rows.items c.sort_unstable_by.new.self.items c.sort_unstable_by.ensures.permutation)

pub returns-clause-sorted : goal.returns-clause-sorted
returns-clause-sorted c =
    rows-sorted c.self.inside.addends.items c.sort_unstable_by.new.self.items
    (c.sort_unstable_by.ensures.sorted (λ (x y : SpannedRow). nat_lt y.place x.place) (falls (λ (w : SpannedRow). w.place)) (always_returns_same _ _ _ (λ a r g called. search rules)))
