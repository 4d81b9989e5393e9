use Rattle.std.proofs.Common.{refl}
use Rattle.cq_deltas_joins.specs.Sources.{rows_at}
use Rattle.cq_views_state.proofs.Preparing.{groups-hold, groups-same, images-hold, images-plain, images-same}
use Rattle.cq_views_state.proofs.Standing.{all-wait, can-change}
use Rattle.cq_views_state.proofs.state.ViewState.prepare.Goals as goal
use Rattle.cq_views_state.specs.declared.last.Last.TheVariants as stored
use Rattle.cq_views_state.specs.declared.last.LastChange.TheVariants as added

pub stream_groups-requires-clause-change : goal.stream_groups-requires-clause-change
stream_groups-requires-clause-change c = can-change c.args.self.now (rows_at c.args.changes.items) c.requires

pub returns-in_err-waiting-in-Groups-clause-same : goal.returns-in_err-waiting-in-Groups-clause-same
returns-in_err-waiting-in-Groups-clause-same c = groups-same c.args.self.now _ _ c.in-Groups.is (rw c.open-open.ensures.same at c.stream_groups.ensures.same) _ c.stream_groups.ensures.kept.still _

pub returns-in_ok-waiting-in-Groups-clause-same : goal.returns-in_ok-waiting-in-Groups-clause-same
returns-in_ok-waiting-in-Groups-clause-same c = groups-same c.args.self.now _ _ c.in-Groups.is (rw c.open-open.ensures.same at c.stream_groups.ensures.same) _ c.stream_groups.ensures.kept.still _

pub returns-in_ok-waiting-in-Groups-clause-waiting : goal.returns-in_ok-waiting-in-Groups-clause-waiting
returns-in_ok-waiting-in-Groups-clause-waiting c =
    let all = c.in_ok-waiting-in-Groups.ensures in
    all-wait c.args.self.now (rows_at c.args.changes.items) c.requires _ all.adds.holds.change _ (stored.Groups _) _ _ (added.Groups _) all.adds.took.added all.ready.waiting

pub returns-in_ok-waiting-in-Groups-clause-ready : goal.returns-in_ok-waiting-in-Groups-clause-ready
returns-in_ok-waiting-in-Groups-clause-ready c =
    let all = c.in_ok-waiting-in-Groups.ensures in
    let holds = groups-hold c.args.self.now _ _ c.in-Groups.is (rw c.open-open.ensures.same at c.stream_groups.ensures.same) _ c.requires _ all.adds.holds.change all.adds.clean all.adds.holds.few _ all.adds.took.added in
    record { sides = all.ready.room; last = (all.adds.took.keys, holds) }

pub stream_images-requires-clause-plain : goal.stream_images-requires-clause-plain
stream_images-requires-clause-plain c = images-plain c.args.self.now _ c.in-Images.is (rows_at c.args.changes.items) c.requires

pub stream_images-requires-clause-change : goal.stream_images-requires-clause-change
stream_images-requires-clause-change c = can-change c.args.self.now (rows_at c.args.changes.items) c.requires

pub returns-in_err-streamed-in-Images-clause-same : goal.returns-in_err-streamed-in-Images-clause-same
returns-in_err-streamed-in-Images-clause-same c = images-same c.args.self.now _ _ c.in-Images.is refl _ c.stream_images.ensures.kept.still _

pub returns-in_err-reserve-in-Images-clause-same : goal.returns-in_err-reserve-in-Images-clause-same
returns-in_err-reserve-in-Images-clause-same c = images-same c.args.self.now _ _ c.in-Images.is c.reserve.ensures.entries _ c.stream_images.ensures.kept.still _

pub returns-in_ok-reserve-in-Images-clause-same : goal.returns-in_ok-reserve-in-Images-clause-same
returns-in_ok-reserve-in-Images-clause-same c = images-same c.args.self.now _ _ c.in-Images.is c.reserve.ensures.entries _ c.stream_images.ensures.kept.still _

pub returns-in_ok-reserve-in-Images-clause-waiting : goal.returns-in_ok-reserve-in-Images-clause-waiting
returns-in_ok-reserve-in-Images-clause-waiting c =
    let all = c.in_ok-streamed-in-Images.ensures in
    all-wait c.args.self.now (rows_at c.args.changes.items) c.requires _ all.adds.holds.change _ (stored.Images _) _ _ (added.Images _) all.adds.took all.ready.waiting

pub returns-in_ok-reserve-in-Images-clause-ready : goal.returns-in_ok-reserve-in-Images-clause-ready
returns-in_ok-reserve-in-Images-clause-ready c =
    let all = c.in_ok-streamed-in-Images.ensures in
    let small = images-hold c.args.self.now _ c.reserve.new.self c.in-Images.is c.reserve.ensures.entries _ c.requires _ all.adds.holds.change all.adds.clean all.adds.holds.few c.in_ok-streamed-in-Images.streamed.1 c.len.ensures.clean all.adds.took in
    record { sides = all.ready.room; last = (rw c.len.ensures.len at c.in_ok-reserve-in-Images.ensures.room, small) }
