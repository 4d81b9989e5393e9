use Rattle.std.proofs.Common.{◌≡◌, ◌+◌, ◌-◌, ◌≤◌, min, subst, arith}
use Rattle.std.specs.List.{AllByRecursion}
use Rattle.std.proofs.lemmas.List.{take_all}
use Rattle.cq_engine_tables.specs.Views.{NamedView}
use Rattle.cq_engine_queue.proofs.Trimming.{most-next, passed-next}
use Rattle.cq_engine_queue.proofs.noting.trim.Goals.{else-ahead-count, then-ahead-count}
use Rattle.cq_engine_queue.proofs.noting.trim.Goals as goal

pub loop-view-preserved : goal.loop-view-preserved
loop-view-preserved c =
    let q = c.args.queue.now in
    let views = c.args.views.now in
    let so_far = c.loop-view.invariant in
    let place = c.loop-view.view-index in
    let v = c.view-item.result in
    let there = c.loop-view-test.true in
    let count = c.loop-view.count in
    let now = c.if-ahead-count.count in
    let less : now ≡ min count (v.kept.state.epoch - q.passed) = elim c.if-ahead-count.branch [
      | then-ahead-count w ↦ omega (arith, w.count-is, w.if-ahead-count, c.epoch.ensures, c.passed.ensures)
      | else-ahead-count w ↦ omega (arith, w.count-is, w.if-ahead-count, c.epoch.ensures, c.passed.ensures)
    ] in
    record {
      there = omega (arith, less, so_far.there);
      behind = passed-next q views c.requires.within place v there c.view-item.is count now less so_far.behind;
      most = most-next q views c.requires.within place v there c.view-item.is count now less _ so_far.most;
    }

pub returns : goal.returns
returns c =
    let q = c.args.queue.now in
    let so_far = c.loop-view.invariant in
    let all = take_all c.loop-view.view-index c.args.views.now c.loop-view-test.false in
    record {
      count = c.loop-view.count;
      there = so_far.there;
      behind = subst (AllByRecursion (λ (v : NamedView). q.passed + c.loop-view.count ≤ v.kept.state.epoch)) all so_far.behind;
      most = λ n few passed. so_far.most n few (rw all passed);
      passed = c.trim.ensures.passed;
      changes = c.trim.ensures.changes;
    }
