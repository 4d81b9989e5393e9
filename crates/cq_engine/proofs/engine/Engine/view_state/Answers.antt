use Rattle.std.proofs.Common.{subst, sym}
use Rattle.cq_model_bags.proofs.Lists.{all-at}
use Rattle.cq_engine_queue.proofs.Showing.{shows-epoch}
use Rattle.cq_engine_tables.proofs.Named.{within}
use Rattle.cq_engine_tables.specs.Views.{IsRight}
use Rattle.cq_views.proofs.Standing.{standing-by_bags}
use Rattle.cq_engine.proofs.Stored.{stored_absent, stored_there}
use Rattle.cq_engine.proofs.engine.Engine.view_state.Goals as goal

pub returns-in_err-place-clause-told : goal.returns-in_err-place-clause-told
returns-in_err-place-clause-told c =
    let missing = rw c.deref.ensures.value at c.in_err-place.ensures in
    rw (← c.self.view_is, c.from_residual.ensures) (sym (stored_absent c.args.name.now c.self.inside.views.items (sym missing)))

pub returns-clause-told : goal.returns-clause-told
returns-clause-told c =
    let found = rw c.deref.ensures.value at c.in_ok-place.ensures in
    rw (← c.self.view_is) (sym (stored_there c.args.name.now c.self.inside.views.items c.in_ok-place.place (sym found) c.index.result.now c.index.ensures))

pub returns-clause-shows : goal.returns-clause-shows
returns-clause-shows c =
    let vs = c.self.inside.views.items in
    let v = c.index.result.now in
    let place = c.in_ok-place.place in
    let found = rw c.deref.ensures.value at c.in_ok-place.ensures in
    rw (← c.self.view_is)
    (shows-epoch standing-by_bags _ c.self.invariant.history v
    (subst (IsRight _) (sym c.index.ensures) (all-at (IsRight _) vs place v (within c.args.name.now vs place (sym found)) c.self.invariant.right)))
