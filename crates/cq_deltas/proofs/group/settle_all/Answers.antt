use Rattle.std.proofs.Common.{arith}
use Rattle.cq_deltas.proofs.Turns.{same-seen}
use Rattle.cq_deltas.proofs.group.settle_all.Goals as goal

pub loop-place-preserved : goal.loop-place-preserved
loop-place-preserved c = same-seen c.args.kept.now c.loop-place.kept c.loop-place.place c.settle.new.self c.index-kept-place.result (omega arith) c.loop-place.invariant c.settle.ensures
