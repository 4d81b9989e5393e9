use Rattle.std.proofs.Common.{◌≡◌, Some, slice_get, rules}
use Rattle.std.specs.Map.{values_of}
use Rattle.std.proofs.lemmas.Result.{on_ok_weaker}
use Rattle.cq_deltas.proofs.AtKeys.{over-same}
use Rattle.cq_deltas.proofs.Places.{held-there, over-keep, over-room, writes}
use Rattle.cq_deltas.proofs.open_groups.OpenGroups.make_room.Goals as goal

pub returns-clause-same : goal.returns-clause-same
returns-clause-same c =
    let old = c.self.inside.groups in
    let group = c.in-Some.group.now in
    let at : slice_get (values_of old.entries) c.args.place ≡ Some group = search rules in
    let distinct = c.get_index_mut.ensures.unique in
    rw (← c.self.view_is)
    (over-same _ _ _ group c.ready.new.self (writes old c.args.place group c.ready.new.self distinct at) (held-there old.entries c.args.place group distinct at) c.ready.ensures.seen)

pub returns-clause-keep : goal.returns-clause-keep
returns-clause-keep c =
    let old = c.self.inside.groups.entries in
    let at : slice_get (values_of old) c.args.place ≡ Some c.in-Some.group.now = search rules in
    rw (← c.self.view_is) (over-keep c.in-Some.group.now c.ready.new.self old c.args.place at c.ready.ensures.kept)

pub returns-clause-room : goal.returns-clause-room
returns-clause-room c =
    let old = c.self.inside.groups.entries in
    let at : slice_get (values_of old) c.args.place ≡ Some c.in-Some.group.now = search rules in
    on_ok_weaker c.ready.result (over-room c.in-Some.group.now c.ready.new.self old c.args.place c.args.addends.now at) c.ready.ensures.room
