use Rattle.std.proofs.Common.{◌≡◌, ◌∙◌, [], ◌∷◌, ◌++◌, None, sym, subst, rules}
use Rattle.indexmap.proofs.CallerLemmas.{insert_entry-new}
use Rattle.cq_values.specs.Order.{same_row}
use Rattle.cq_deltas.specs.Keyed.{KeepPlaces, held_at}
use Rattle.cq_deltas.proofs.AtKeys.{made-same}
use Rattle.cq_deltas.proofs.Places.{behind-keep, behind-key, place-found}
use Rattle.cq_deltas.proofs.open_groups.OpenGroups.place_of.Goals as goal

pub returns-in-Some-clause-place : goal.returns-in-Some-clause-place
returns-in-Some-clause-place c = rw (← c.self.view_is) (place-found c.self.inside.groups.entries c.args.key c.in-Some.place (sym c.in-Some.ensures.index))

pub returns-clause-groups : goal.returns-clause-groups
returns-clause-groups c =
    let none : held_at c.args.self.now c.args.key ≡ None = search rules in
    made-same c.args.self.now c.insert.new.self.entries c.args.key c.args.aggregates.now c.in_ok-group.group c.in_ok-group.ensures (rw c.self.view_is at c.in_ok-insert.ensures.updates.0) none

pub returns-clause-keep : goal.returns-clause-keep
returns-clause-keep c =
    let none : held_at c.self.inside.groups.entries c.args.key ≡ None = search rules in
    let put : c.insert.new.self.entries ≡ c.self.inside.groups.entries ++ (c.args.key, c.in_ok-group.group) ∷ [] =
    c.in_ok-insert.ensures.entries ∙ insert_entry-new same_row c.self.inside.groups c.args.key c.in_ok-group.group none in
    rw (← c.self.view_is) (subst (KeepPlaces c.self.inside.groups.entries) (sym put) (behind-keep c.args.key c.in_ok-group.group c.self.inside.groups.entries))

pub returns-clause-place : goal.returns-clause-place
returns-clause-place c =
    let none : held_at c.self.inside.groups.entries c.args.key ≡ None = search rules in
    let put : c.insert.new.self.entries ≡ c.self.inside.groups.entries ++ (c.args.key, c.in_ok-group.group) ∷ [] =
    c.in_ok-insert.ensures.entries ∙ insert_entry-new same_row c.self.inside.groups c.args.key c.in_ok-group.group none in
    rw (put, c.len-place.ensures.len) (behind-key c.args.key c.in_ok-group.group c.self.inside.groups.entries)
