use Rattle.cq_deltas.specs.Keyed.{AreSettled, Takes, additions_at, is_met}
use Rattle.cq_deltas.proofs.GoesOn.{groups-go-on}
use Rattle.cq_deltas.proofs.Leaving.{all-taken, moved-settled, moved-there}
use Rattle.cq_deltas.proofs.Places.{kept-keys}
use Rattle.cq_deltas.proofs.open_groups.OpenGroups.take.Goals as goal

pub settle_all-requires : goal.settle_all-requires
settle_all-requires c = kept-keys c.args.self.now c.put_all.new.self c.put_all.ensures.keep c.args.change c.requires.keys

pub returns : goal.returns
returns c =
    let takes : Takes c.args.self.now (additions_at c.args.self.now c.args.change) c.settle_all.new.self =
    all-taken c.args.self.now c.put_all.new.self c.settle_all.new.self c.args.change c.requires.keys c.put_all.ensures.keep c.put_all.ensures.put
    (c.settle_all.ensures.full c.if-settle_all.false) in
    record { takes = takes; goes_on = groups-go-on c.args.self.now c.settle_all.new.self c.args.change c.requires.keys takes }

pub drop_empty-requires-clause-there : goal.drop_empty-requires-clause-there
drop_empty-requires-clause-there c =
    moved-there c.put_all.new.self c.settle_all.new.self c.args.change c.sort_from_last.new.self c.settle_all.ensures.keys c.sort_from_last.ensures.moved
    (kept-keys c.args.self.now c.put_all.new.self c.put_all.ensures.keep c.args.change c.requires.keys)

pub returns-then-settle_all : goal.returns-then-settle_all
returns-then-settle_all c =
    let old = c.args.self.now in
    let middle = c.put_all.new.self in
    let third = c.settle_all.new.self in
    let new = c.drop_empty.new.self in
    let settles : AreSettled (is_met (additions_at middle c.args.change)) middle new =
    moved-settled middle third c.args.change c.sort_from_last.new.self c.settle_all.ensures.keys c.sort_from_last.ensures.moved new c.settle_all.ensures.same
    c.drop_empty.ensures in
    let takes : Takes old (additions_at old c.args.change) new =
    all-taken old middle new c.args.change c.requires.keys c.put_all.ensures.keep c.put_all.ensures.put settles in
    record { takes = takes; goes_on = groups-go-on old new c.args.change c.requires.keys takes }
