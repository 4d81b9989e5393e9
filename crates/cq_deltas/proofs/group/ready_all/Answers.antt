use Rattle.std.proofs.Common.{arith}
use Rattle.cq_deltas.proofs.Turns.{keep-more, room-done, room-more, same-seen}
use Rattle.cq_deltas.proofs.group.ready_all.Goals as goal

pub returns-in_err-ready-clause-seen : goal.returns-in_err-ready-clause-seen
returns-in_err-ready-clause-seen c =
    same-seen c.args.kept.now c.loop-place.kept c.loop-place.place c.ready.new.self c.index-kept-place.result (omega arith) c.loop-place.invariant.seen c.ready.ensures.seen

pub returns-in_err-ready-clause-kept : goal.returns-in_err-ready-clause-kept
returns-in_err-ready-clause-kept c =
    keep-more c.args.kept.now c.loop-place.kept c.loop-place.place c.ready.new.self c.index-kept-place.result (omega arith) c.loop-place.invariant.kept c.ready.ensures.kept

pub loop-place-preserved : goal.loop-place-preserved
loop-place-preserved c = record {
  seen = same-seen c.args.kept.now c.loop-place.kept c.loop-place.place c.ready.new.self c.index-kept-place.result (omega arith) c.loop-place.invariant.seen c.ready.ensures.seen;
  room =
      room-more c.args.addends.now c.loop-place.kept c.loop-place.place c.index-addends-place.result c.ready.new.self c.index-addends-place.is (omega arith) (omega arith) c.loop-place.invariant.room c.in_ok-ready.ensures.room;
  kept = keep-more c.args.kept.now c.loop-place.kept c.loop-place.place c.ready.new.self c.index-kept-place.result (omega arith) c.loop-place.invariant.kept c.ready.ensures.kept;
}

pub returns-clause-room : goal.returns-clause-room
returns-clause-room c = room-done c.args.addends.now c.loop-place.kept c.loop-place.place (omega arith) c.loop-place.invariant.room
