use Rattle.std.proofs.Common.{◌≡◌, ◌∙◌, Some, length, slice_get, rules}
use Rattle.cq_values.specs.Order.{same_row}
use Rattle.cq_values.specs.Value.{Row}
use Rattle.cq_deltas.specs.declared.group.Group.{Group as StoredGroup}
use Rattle.std.specs.List.{IsDistinct}
use Rattle.std.specs.Map.{keys_of}
use Rattle.cq_model.specs.declared.fault.ShowFault.TheVariants.{SumOutOfRange}
use Rattle.cq_deltas.specs.Shown.{GroupsCanBeShown}
use Rattle.cq_deltas.proofs.Listing.{lists-keys, place-range, rows-more, range-more, rows-done, range-done}
use Rattle.cq_deltas.proofs.groups.Groups.shown_rows.Goals as goal

pub returns-in_err-push_shown-in-Some-clause-fault : goal.returns-in_err-push_shown-in-Some-clause-fault
returns-in_err-push_shown-in-Some-clause-fault c =
    let entry : Some (c.in-Some.key.now, c.in-Some.group.now) ≡ slice_get c.args.self.now c.loop-place.place = rw (c.entries-groups.ensures ∙ c.self.view_is) at c.in-Some.ensures.entry in
    let distinct : IsDistinct same_row (keys_of c.args.self.now) = rw (c.entries-groups.ensures ∙ c.self.view_is) at c.len-place-end.ensures.unique in
    let fault : c.in_err-push_shown-in-Some.field-0.0 ≡ SumOutOfRange → GroupsCanBeShown c.args.aggregates.now c.args.self.now → ⊥ =
    λ is all. c.in_err-push_shown-in-Some.ensures.fault is (place-range c.args.aggregates.now c.args.self.now c.loop-place.place (c.in-Some.key.now, c.in-Some.group.now) entry distinct all) in
    search rules

pub loop-place-preserved : goal.loop-place-preserved
loop-place-preserved c =
    let e : Row × StoredGroup = (c.in-Some.key.now, c.in-Some.group.now) in
    let entry : Some e ≡ slice_get c.args.self.now c.loop-place.place = rw (c.entries-groups.ensures ∙ c.self.view_is) at c.in-Some.ensures.entry in
    record {
      rows = c.in_ok-push_shown-in-Some.ensures.rows ∙ rows-more c.args.aggregates.now c.args.self.now c.loop-place.place e entry c.loop-place.rows.rows c.loop-place.invariant.rows;
      begun = c.in_ok-push_shown-in-Some.ensures.begun;
      range = range-more c.args.aggregates.now c.args.self.now c.loop-place.place e entry c.loop-place.invariant.range c.in_ok-push_shown-in-Some.ensures.range;
    }

pub returns-clause-rows : goal.returns-clause-rows
returns-clause-rows c =
    let end : c.loop-place.place ≡ length c.args.self.now = search rules in
    rows-done c.args.aggregates.now c.args.self.now c.loop-place.place (rw (c.entries-groups.ensures ∙ c.self.view_is) at c.len-place-end.ensures.unique) end c.loop-place.rows.rows c.loop-place.invariant.rows

pub returns-in_err-rows-clause-keys : goal.returns-in_err-rows-clause-keys
returns-in_err-rows-clause-keys c = lists-keys c.args.aggregates.now c.args.self.now (rw (c.entries-groups.ensures ∙ c.self.view_is) at c.len.ensures.unique)

pub returns-in_err-push_shown-in-Some-clause-keys : goal.returns-in_err-push_shown-in-Some-clause-keys
returns-in_err-push_shown-in-Some-clause-keys c = lists-keys c.args.aggregates.now c.args.self.now (rw (c.entries-groups.ensures ∙ c.self.view_is) at c.len-place-end.ensures.unique)

pub returns-clause-keys : goal.returns-clause-keys
returns-clause-keys c = lists-keys c.args.aggregates.now c.args.self.now (rw (c.entries-groups.ensures ∙ c.self.view_is) at c.len-place-end.ensures.unique)

pub returns-clause-range : goal.returns-clause-range
returns-clause-range c =
    let end : c.loop-place.place ≡ length c.args.self.now = search rules in
    range-done c.args.aggregates.now c.args.self.now c.loop-place.place (rw (c.entries-groups.ensures ∙ c.self.view_is) at c.len-place-end.ensures.unique) end c.loop-place.invariant.range
