use Rattle.std.proofs.Common.{◌<◌, ◌≤◌, ℕ, length, subst, arith}
use Rattle.std.specs.List.{AllByRecursion}
use Rattle.cq_engine_tables.specs.Views.{IsRight}
use Rattle.cq_engine_queue.proofs.Ways.{IsGone, all-there, goes-on, holds-here, none-gone, on-way-here, one-gone, placed-length, right-epochs, some-way, stopped-way, there-counted, there-here, there-taken, way-begun, way-between, way-right}
use Rattle.cq_engine_queue.proofs.taking.take_all_on.Goals as goal

pub loop-place-init : goal.loop-place-init
loop-place-init c = none-gone c.args.goal.now c.args.now c.args.queue.now c.args.views.now.items

-- the view stands at no epoch beyond the present
pub of-to-requires : goal.of-to-requires
of-to-requires c =
    let vs = c.args.views.now.items in
    let ws = c.loop-place.views.items in
    let i = c.loop-place.place in
    let h : i < length ws = omega (arith, c.loop-place-test.true, c.len-place-end.ensures, c.args.views.now.ok.0, placed-length (IsGone c.args.goal.now c.args.now c.args.queue.now i) 0 vs ws c.loop-place.invariant) in
    let epochs = subst (λ (n : ℕ). AllByRecursion (λ v. v.kept.state.epoch ≤ n) vs) c.requires.now (right-epochs c.requires.state vs c.requires.right) in
    holds-here c.args.goal.now c.args.now c.args.queue.now vs ws i h c.loop-place.invariant (λ v. v.kept.state.epoch ≤ c.args.now) epochs c.index.result.now c.index.ensures

-- and is right there
pub take_on-requires-clause-can : goal.take_on-requires-clause-can
take_on-requires-clause-can c =
    let vs = c.args.views.now.items in
    let ws = c.loop-place.views.items in
    let i = c.loop-place.place in
    let h : i < length ws = omega (arith, c.loop-place-test.true, c.len-place-end.ensures, c.args.views.now.ok.0, placed-length (IsGone c.args.goal.now c.args.now c.args.queue.now i) 0 vs ws c.loop-place.invariant) in
    let epochs = subst (λ (n : ℕ). AllByRecursion (λ v. v.kept.state.epoch ≤ n) vs) c.requires.now (right-epochs c.requires.state vs c.requires.right) in
    let w = c.index_mut.result.now in
    let at = holds-here c.args.goal.now c.args.now c.args.queue.now vs ws i h c.loop-place.invariant (λ v. v.kept.state.epoch ≤ c.args.now) epochs w c.index_mut.ensures.value in
    let goes = goes-on c.args.goal.now c.args.now c.args.queue.now vs ws i h c.loop-place.invariant c.index.result.now w w c.index.ensures c.index_mut.ensures.value c.of-to.result c.of-to.ensures at in
    record {
      state = c.requires.state;
      queue = c.requires.queue;
      history = c.requires.history;
      right = holds-here c.args.goal.now c.args.now c.args.queue.now vs ws i h c.loop-place.invariant (IsRight c.requires.state) c.requires.right w c.index_mut.ensures.value;
      there = omega (arith, goes.1, c.requires.now);
    }

pub take_on-requires-clause-ahead : goal.take_on-requires-clause-ahead
take_on-requires-clause-ahead c =
    let vs = c.args.views.now.items in
    let ws = c.loop-place.views.items in
    let i = c.loop-place.place in
    let h : i < length ws = omega (arith, c.loop-place-test.true, c.len-place-end.ensures, c.args.views.now.ok.0, placed-length (IsGone c.args.goal.now c.args.now c.args.queue.now i) 0 vs ws c.loop-place.invariant) in
    let epochs = subst (λ (n : ℕ). AllByRecursion (λ v. v.kept.state.epoch ≤ n) vs) c.requires.now (right-epochs c.requires.state vs c.requires.right) in
    let w = c.index_mut.result.now in
    let at = holds-here c.args.goal.now c.args.now c.args.queue.now vs ws i h c.loop-place.invariant (λ v. v.kept.state.epoch ≤ c.args.now) epochs w c.index_mut.ensures.value in
    (goes-on c.args.goal.now c.args.now c.args.queue.now vs ws i h c.loop-place.invariant c.index.result.now w w c.index.ensures c.index_mut.ensures.value c.of-to.result c.of-to.ensures at).0

-- where it stops, it is on its way
pub returns-in_err-take_on-clause-way : goal.returns-in_err-take_on-clause-way
returns-in_err-take_on-clause-way c =
    let vs = c.args.views.now.items in
    let ws = c.loop-place.views.items in
    let i = c.loop-place.place in
    let h : i < length ws = omega (arith, c.loop-place-test.true, c.len-place-end.ensures, c.args.views.now.ok.0, placed-length (IsGone c.args.goal.now c.args.now c.args.queue.now i) 0 vs ws c.loop-place.invariant) in
    let epochs = subst (λ (n : ℕ). AllByRecursion (λ v. v.kept.state.epoch ≤ n) vs) c.requires.now (right-epochs c.requires.state vs c.requires.right) in
    let w = c.index_mut.result.now in
    let x = c.take_on.new.view in
    let on = on-way-here c.args.goal.now c.args.now c.args.queue.now vs ws i h c.loop-place.invariant c.index.result.now w x c.index.ensures c.index_mut.ensures.value c.of-to.result c.of-to.ensures c.take_on.ensures.on c.take_on.ensures.right c.take_on.ensures.begun in
    way-between c.args.goal.now c.args.now c.args.queue.now 0 vs _ (stopped-way c.args.goal.now c.args.now c.args.queue.now vs epochs ws i w x h c.loop-place.invariant on)

pub returns-in_err-take_on-clause-right : goal.returns-in_err-take_on-clause-right
returns-in_err-take_on-clause-right c =
    let vs = c.args.views.now.items in
    let ws = c.loop-place.views.items in
    let i = c.loop-place.place in
    let h : i < length ws = omega (arith, c.loop-place-test.true, c.len-place-end.ensures, c.args.views.now.ok.0, placed-length (IsGone c.args.goal.now c.args.now c.args.queue.now i) 0 vs ws c.loop-place.invariant) in
    let epochs = subst (λ (n : ℕ). AllByRecursion (λ v. v.kept.state.epoch ≤ n) vs) c.requires.now (right-epochs c.requires.state vs c.requires.right) in
    let w = c.index_mut.result.now in
    let x = c.take_on.new.view in
    let on = on-way-here c.args.goal.now c.args.now c.args.queue.now vs ws i h c.loop-place.invariant c.index.result.now w x c.index.ensures c.index_mut.ensures.value c.of-to.result c.of-to.ensures c.take_on.ensures.on c.take_on.ensures.right c.take_on.ensures.begun in
    way-right c.args.goal.now c.args.now c.args.queue.now 0 vs _ (stopped-way c.args.goal.now c.args.now c.args.queue.now vs epochs ws i w x h c.loop-place.invariant on)

pub returns-in_err-take_on-clause-begun : goal.returns-in_err-take_on-clause-begun
returns-in_err-take_on-clause-begun c =
    let vs = c.args.views.now.items in
    let ws = c.loop-place.views.items in
    let i = c.loop-place.place in
    let h : i < length ws = omega (arith, c.loop-place-test.true, c.len-place-end.ensures, c.args.views.now.ok.0, placed-length (IsGone c.args.goal.now c.args.now c.args.queue.now i) 0 vs ws c.loop-place.invariant) in
    let epochs = subst (λ (n : ℕ). AllByRecursion (λ v. v.kept.state.epoch ≤ n) vs) c.requires.now (right-epochs c.requires.state vs c.requires.right) in
    let w = c.index_mut.result.now in
    let x = c.take_on.new.view in
    let on = on-way-here c.args.goal.now c.args.now c.args.queue.now vs ws i h c.loop-place.invariant c.index.result.now w x c.index.ensures c.index_mut.ensures.value c.of-to.result c.of-to.ensures c.take_on.ensures.on c.take_on.ensures.right c.take_on.ensures.begun in
    λ s of history right. way-begun c.args.goal.now c.args.now c.args.queue.now s 0 vs _ of history right (stopped-way c.args.goal.now c.args.now c.args.queue.now vs epochs ws i w x h c.loop-place.invariant on)

-- else it is where it was to go
pub loop-place-preserved : goal.loop-place-preserved
loop-place-preserved c =
    let vs = c.args.views.now.items in
    let ws = c.loop-place.views.items in
    let i = c.loop-place.place in
    let h : i < length ws = omega (arith, c.loop-place-test.true, c.len-place-end.ensures, c.args.views.now.ok.0, placed-length (IsGone c.args.goal.now c.args.now c.args.queue.now i) 0 vs ws c.loop-place.invariant) in
    let w = c.index_mut.result.now in
    let x = c.take_on.new.view in
    let one = there-here c.args.goal.now c.args.now c.args.queue.now vs ws i h c.loop-place.invariant c.index.result.now w x c.index.ensures c.index_mut.ensures.value c.of-to.result c.of-to.ensures c.take_on.ensures.on c.take_on.ensures.right c.in_ok-take_on.ensures.ok c.in_ok-take_on.ensures.counts in
    one-gone c.args.goal.now c.args.now c.args.queue.now vs ws i w x h c.loop-place.invariant one

-- so all are
pub returns-clause-ok : goal.returns-clause-ok
returns-clause-ok c =
    let vs = c.args.views.now.items in
    let ws = c.loop-place.views.items in
    let i = c.loop-place.place in
    let all : length vs ≤ i = omega (arith, c.loop-place-test.false, c.len-place-end.ensures, c.args.views.now.ok.0) in
    there-taken c.args.goal.now c.args.now c.args.queue.now 0 vs ws (all-there c.args.goal.now c.args.now c.args.queue.now vs ws i all c.loop-place.invariant)

pub returns-clause-way : goal.returns-clause-way
returns-clause-way c =
    let vs = c.args.views.now.items in
    let epochs = subst (λ (n : ℕ). AllByRecursion (λ v. v.kept.state.epoch ≤ n) vs) c.requires.now (right-epochs c.requires.state vs c.requires.right) in
    way-between c.args.goal.now c.args.now c.args.queue.now 0 vs c.loop-place.views.items (some-way c.args.goal.now c.args.now c.args.queue.now vs epochs c.loop-place.place c.loop-place.views.items c.loop-place.invariant)

pub returns-clause-right : goal.returns-clause-right
returns-clause-right c =
    let vs = c.args.views.now.items in
    let epochs = subst (λ (n : ℕ). AllByRecursion (λ v. v.kept.state.epoch ≤ n) vs) c.requires.now (right-epochs c.requires.state vs c.requires.right) in
    way-right c.args.goal.now c.args.now c.args.queue.now 0 vs c.loop-place.views.items (some-way c.args.goal.now c.args.now c.args.queue.now vs epochs c.loop-place.place c.loop-place.views.items c.loop-place.invariant)

pub returns-clause-begun : goal.returns-clause-begun
returns-clause-begun c =
    let vs = c.args.views.now.items in
    let epochs = subst (λ (n : ℕ). AllByRecursion (λ v. v.kept.state.epoch ≤ n) vs) c.requires.now (right-epochs c.requires.state vs c.requires.right) in
    λ s of history right. way-begun c.args.goal.now c.args.now c.args.queue.now s 0 vs c.loop-place.views.items of history right (some-way c.args.goal.now c.args.now c.args.queue.now vs epochs c.loop-place.place c.loop-place.views.items c.loop-place.invariant)

pub returns-clause-counts : goal.returns-clause-counts
returns-clause-counts c =
    let vs = c.args.views.now.items in
    let ws = c.loop-place.views.items in
    let i = c.loop-place.place in
    let all : length vs ≤ i = omega (arith, c.loop-place-test.false, c.len-place-end.ensures, c.args.views.now.ok.0) in
    there-counted c.args.goal.now c.args.now c.args.queue.now 0 vs ws (all-there c.args.goal.now c.args.now c.args.queue.now vs ws i all c.loop-place.invariant)
