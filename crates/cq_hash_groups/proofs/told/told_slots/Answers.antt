use Rattle.std.proofs.Common.{◌<◌, ◌∙◌, ◌++◌, ◌∷◌, [], List, ap, ap₂, arith, length, sym}
use Rattle.cq_hash_groups.specs.Lead.{lead_in, told, told_one}
use Rattle.cq_hash_groups.proofs.ToldSlots.{told-done, told-next}
use Rattle.cq_hash_groups.proofs.told.told_slots.Goals as goal
use Rattle.cq_hash_groups_slots.specs.declared.slots.Slots.{Slots}

pub loop-place-preserved : goal.loop-place-preserved
loop-place-preserved c =
    let lead = lead_in c.lead_of-lead.result in
    let aggregates = c.args.aggregates.now in
    let slots = c.args.slots.now in
    let place = c.loop-place.place in
    let g : place < length aggregates = omega (arith, c.loop-place-test.true, c.min-len.ensures) in
    let h : place < length slots = omega (arith, c.loop-place-test.true, c.min-len.ensures) in
    c.in_ok-push.ensures.items
    ∙ ap₂ (λ (ts : List Slots) (t : Slots). ts ++ t ∷ []) c.loop-place.invariant (c.told_by.ensures ∙ ap₂ (told_one lead) c.index-aggregates-place.is c.index-slots-place.is)
    ∙ sym (told-next lead aggregates slots place c.index-aggregates-place.result c.index-slots-place.result g h)

pub returns : goal.returns
returns c =
    let aggregates = c.args.aggregates.now in
    let slots = c.args.slots.now in
    c.loop-place.invariant
    ∙ told-done (lead_in c.lead_of-lead.result) aggregates slots c.loop-place.place (omega (arith, c.loop-place-test.false, c.min-len.ensures))
    ∙ ap (λ (lead : Slots). told lead aggregates slots) c.lead_of-lead.ensures
