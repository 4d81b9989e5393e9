use Rattle.std.proofs.Common.{◌+◌, length, arith, sym, subst}
use Rattle.cq_hash_groups_slots.specs.declared.slots.Slots.{Slots}
use Rattle.cq_hash_groups_sums.specs.Puts.{AreNumbers, most_before}
use Rattle.cq_hash_groups_slots.specs.Slots.{grown_slots, groups_in}
use Rattle.cq_hash_groups_sums.proofs.Putting.{numbers-of_more}
use Rattle.cq_hash_groups.proofs.Turns.{groups-grown, within-more}
use Rattle.cq_hash_groups.proofs.adding.add_nulls.Goals as goal

pub returns-in_err-grow-clause-within : goal.returns-in_err-grow-clause-within
returns-in_err-grow-clause-within c = λ m all. within-more m (m + length c.args.numbers.now) c.grow.new.self (omega arith) (c.grow.ensures.within m all)

pub put_nulls-requires-clause-there : goal.put_nulls-requires-clause-there
put_nulls-requires-clause-there c =
    subst (λ (s : Slots). AreNumbers (groups_in s) c.args.numbers.now) (sym c.in_ok-grow.ensures.ok)
    (numbers-of_more c.args.groups (groups_in (grown_slots c.args.groups c.args.slots.now)) c.args.numbers.now (groups-grown c.args.groups c.args.slots.now) c.requires.there)

pub put_nulls-requires-clause-room : goal.put_nulls-requires-clause-room
put_nulls-requires-clause-room c = c.grow.ensures.within (most_before (length c.args.numbers.now)) c.requires.room

pub returns-clause-within : goal.returns-clause-within
returns-clause-within c = λ m all. c.put_nulls.ensures.within m (c.grow.ensures.within m all)
