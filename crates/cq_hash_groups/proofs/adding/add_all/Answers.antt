use Rattle.std.proofs.Common.{ℕ, ◌+◌, length, get_or, rules, arith}
use Rattle.cq_hash_groups_slots.specs.declared.slots.Slots.{Slots}
use Rattle.cq_hash_groups_sums.specs.Puts.{most_before}
use Rattle.cq_hash_groups_slots.specs.Slots.{AreWithin, no_slots}
use Rattle.cq_hash_groups_sums.proofs.Putting.{set-each}
use Rattle.cq_model.specs.declared.query.Aggregate.TheVariants.{CountAll}
use Rattle.cq_hash_groups.specs.Lead.{first_sum}
use Rattle.cq_hash_groups.proofs.Turns.{room-at, same-length, turn, turns-done}
use Rattle.cq_hash_groups.proofs.adding.add_all.Goals as goal

pub add_one-requires-clause-lead : goal.add_one-requires-clause-lead
add_one-requires-clause-lead c = c.in_ok-read.ensures

pub add_one-requires-clause-room : goal.add_one-requires-clause-room
add_one-requires-clause-room c =
    room-at (first_sum c.args.aggregates.now) c.args.groups c.args.numbers.now c.args.scan.now c.args.aggregates.now c.args.slots.now c.loop-place.slots c.loop-place.place c.loop-place.invariant.added (most_before (length c.args.numbers.now)) c.index-slots-place.result
    (omega arith) (c.requires.room c.loop-place.place)

pub returns-in_err-add_one-clause-within : goal.returns-in_err-add_one-clause-within
returns-in_err-add_one-clause-within c = λ m all g.
    set-each (λ (k : ℕ) (s : Slots). AreWithin m (get_or c.args.slots.now k no_slots) → AreWithin (m + length c.args.numbers.now) s) c.loop-place.slots c.loop-place.place c.add_one.new.slots no_slots
    (λ here. c.add_one.ensures.within m (room-at (first_sum c.args.aggregates.now) c.args.groups c.args.numbers.now c.args.scan.now c.args.aggregates.now c.args.slots.now c.loop-place.slots c.loop-place.place c.loop-place.invariant.added m c.index-slots-place.result (omega arith) here))
    (c.loop-place.invariant.within m) g (all g)

pub loop-place-preserved : goal.loop-place-preserved
loop-place-preserved c = record {
  added =
      turn (first_sum c.args.aggregates.now) c.args.groups c.args.numbers.now c.args.scan.now c.args.aggregates.now c.args.slots.now c.loop-place.slots c.loop-place.place c.loop-place.invariant.added CountAll
      c.index-slots-place.result c.add_one.new.slots (omega arith)
      (omega (arith, same-length (first_sum c.args.aggregates.now) c.args.groups c.args.numbers.now c.args.scan.now c.args.aggregates.now c.args.slots.now c.loop-place.slots c.loop-place.place c.loop-place.invariant.added)) (search rules);
  within = λ m place.
      set-each (λ (k : ℕ) (s : Slots). AreWithin m (get_or c.args.slots.now k no_slots) → AreWithin (m + length c.args.numbers.now) s) c.loop-place.slots c.loop-place.place c.add_one.new.slots no_slots
      (λ here. c.add_one.ensures.within m (room-at (first_sum c.args.aggregates.now) c.args.groups c.args.numbers.now c.args.scan.now c.args.aggregates.now c.args.slots.now c.loop-place.slots c.loop-place.place c.loop-place.invariant.added m c.index-slots-place.result (omega arith) here))
      (c.loop-place.invariant.within m) place;
}

pub returns-clause-ok : goal.returns-clause-ok
returns-clause-ok c =
    turns-done (first_sum c.args.aggregates.now) c.args.groups c.args.numbers.now c.args.scan.now c.args.aggregates.now c.args.slots.now c.loop-place.slots c.loop-place.place c.loop-place.invariant.added
    (omega (arith, same-length (first_sum c.args.aggregates.now) c.args.groups c.args.numbers.now c.args.scan.now c.args.aggregates.now c.args.slots.now c.loop-place.slots c.loop-place.place c.loop-place.invariant.added))

pub returns-clause-within : goal.returns-clause-within
returns-clause-within c = λ m all g. c.loop-place.invariant.within m g (all g)
