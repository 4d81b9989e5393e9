use Rattle.std.proofs.Common.{◌≡◌, ◌∙◌, Some, sym, refl, slice_get}
use Rattle.cq_deltas.specs.Keyed.{key_at}
use Rattle.cq_deltas.proofs.AtKeys.{drop-settles, settled-already}
use Rattle.cq_deltas.proofs.Places.{key-place, without_rows-at}
use Rattle.cq_deltas.proofs.open_groups.OpenGroups.drop_if_empty.Goals as goal

pub returns-then-is_empty-clause-settled : goal.returns-then-is_empty-clause-settled
returns-then-is_empty-clause-settled c =
    let old = c.self.inside.groups.entries in
    let at : slice_get old c.args.place ≡ Some (c.in-Some.field-0-0.now, c.in-Some.group.now) = sym c.in-Some.ensures.entry in
    let updates = rw (c.swap_remove_index.ensures.entry ∙ at) at c.swap_remove_index.ensures.updates in
    let empty = without_rows-at old c.args.place c.in-Some.field-0-0.now c.in-Some.group.now at c.in-Some.ensures.value ∙ sym c.is_empty-is_empty.ensures ∙ c.if-is_empty.true in
    rw (← c.self.view_is) (drop-settles old c.swap_remove_index.new.self.entries (key_at old c.args.place) (rw (key-place old c.args.place c.in-Some.field-0-0.now c.in-Some.group.now at) updates.0) empty)

pub returns-else-is_empty-clause-settled : goal.returns-else-is_empty-clause-settled
returns-else-is_empty-clause-settled c =
    let old = c.self.inside.groups.entries in
    let full = without_rows-at old c.args.place c.in-Some.field-0-0.now c.in-Some.group.now (sym c.in-Some.ensures.entry) c.in-Some.ensures.value ∙ sym c.is_empty-is_empty.ensures ∙ c.if-is_empty.false in
    rw (← c.self.view_is) (settled-already old old (key_at old c.args.place) (λ k. refl) full)
