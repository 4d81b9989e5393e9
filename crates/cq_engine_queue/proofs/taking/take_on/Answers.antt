use Rattle.std.proofs.Common.{◌≡◌, ◌+◌, ◌-◌, ◌<◌, ap, arith, get_or, inl, inr, length, rules}
use Rattle.cq_engine_queue.specs.Taking.{TakesChange}
use Rattle.cq_engine_queue.proofs.Reaching.{begun-next, can-take, counted-next, counts-next, not-taken, right-same, stands-next, taken-further, taken-same, within-next}
use Rattle.cq_engine_queue.proofs.Counting.{counted-itself}
use Rattle.cq_engine_queue.proofs.taking.take_on.Goals as goal

pub loop-alloc-init : goal.loop-alloc-init
loop-alloc-init c = record { on = not-taken c.args.to c.args.view.now c.requires.ahead; right = λ s of history right. right; counts = λ s of history right. counted-itself s c.args.view.now }

pub take_in-requires : goal.take_in-requires
take_in-requires c =
    let q = c.args.queue.now in
    let v = c.loop-alloc.view in
    let can = c.requires.can in
    let before : v.kept.state.epoch < c.args.to = search rules in
    let more : v.kept.state.epoch < q.passed + length q.changes = omega (arith, before, can.there, can.queue.passed, ap length can.queue.changes, can.history.sound.whole) in
    let is : c.get.result.now ≡ get_or q.changes (v.kept.state.epoch - q.passed) c.get.result.now = search rules in
    can-take c.standing_depends_on_sources.ensures q can.state can.queue can.history v (c.loop-alloc.invariant.right can.state can.queue can.history can.right) more c.get.result.now is

pub loop-alloc-preserved : goal.loop-alloc-preserved
loop-alloc-preserved c =
    let q = c.args.queue.now in
    let v = c.loop-alloc.view in
    let w = c.take_in.new.view in
    let can = c.requires.can in
    let before : v.kept.state.epoch < c.args.to = search rules in
    let more : v.kept.state.epoch < q.passed + length q.changes = omega (arith, before, can.there, can.queue.passed, ap length can.queue.changes, can.history.sound.whole) in
    let is : c.get.result.now ≡ get_or q.changes (v.kept.state.epoch - q.passed) c.get.result.now = search rules in
    let takes : TakesChange c.get.result.now v w = c.in_ok-take_in.ensures.ok in
    record {
      on = taken-further c.args.to c.args.view.now v w c.get.result.now c.loop-alloc.invariant.on before takes;
      right = λ s of history right. stands-next c.standing_depends_on_sources.ensures q s of history v (c.loop-alloc.invariant.right s of history right) more c.get.result.now is w takes;
      counts = λ s of history right. counted-next s c.args.to c.args.view.now v w c.get.result.now c.loop-alloc.invariant.on takes (c.loop-alloc.invariant.counts s of history right)
          (counts-next c.standing_depends_on_sources.ensures q s of history v (c.loop-alloc.invariant.right s of history right) more c.get.result.now is c.work_depends_on_sources.ensures w takes);
    }

pub returns-in_err-take_in-clause-on : goal.returns-in_err-take_in-clause-on
returns-in_err-take_in-clause-on c = taken-same c.args.to c.args.view.now c.loop-alloc.view c.take_in.new.view c.loop-alloc.invariant.on c.in_err-take_in.ensures.err

pub returns-in_err-take_in-clause-right : goal.returns-in_err-take_in-clause-right
returns-in_err-take_in-clause-right c = λ s of history right. right-same s c.loop-alloc.view c.take_in.new.view (c.loop-alloc.invariant.right s of history right) c.in_err-take_in.ensures.err

pub returns-in_err-take_in-clause-begun : goal.returns-in_err-take_in-clause-begun
returns-in_err-take_in-clause-begun c =
    let q = c.args.queue.now in
    let v = c.loop-alloc.view in
    let w = c.take_in.new.view in
    let can = c.requires.can in
    let before : v.kept.state.epoch < c.args.to = search rules in
    let more : v.kept.state.epoch < q.passed + length q.changes = omega (arith, before, can.there, can.queue.passed, ap length can.queue.changes, can.history.sound.whole) in
    let is : c.get.result.now ≡ get_or q.changes (v.kept.state.epoch - q.passed) c.get.result.now = search rules in
    λ s of history right.
    inr (begun-next s c.args.to c.args.view.now v w c.get.result.now c.loop-alloc.invariant.on c.in_err-take_in.ensures.err before (c.loop-alloc.invariant.counts s of history right) c.in_err-take_in.ensures.within
    (within-next c.standing_depends_on_sources.ensures q s of history v (c.loop-alloc.invariant.right s of history right) more c.get.result.now is c.work_depends_on_sources.ensures w c.in_err-take_in.ensures.within))

pub returns-clause-begun : goal.returns-clause-begun
returns-clause-begun c = λ s of history right. inl (c.loop-alloc.invariant.counts s of history right)
