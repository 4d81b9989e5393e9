use Rattle.std.proofs.Common.{sym, ap, ◌∙◌}
use Rattle.std.specs.Prelude.{option_map}
use Rattle.cq_engine_tables.specs.Views.{views_of}
use Rattle.cq_engine_tables.proofs.Named.{epoch_there}
use Rattle.cq_engine.proofs.Kept.{view_absent}
use Rattle.cq_engine.proofs.engine.Engine.view_epoch.Goals as goal

pub returns-in_err-place : goal.returns-in_err-place
returns-in_err-place c =
    let missing = rw c.deref.ensures.value at c.in_err-place.ensures in
    rw (← c.self.view_is) (c.from_residual.ensures ∙ ap (option_map (λ v. v.epoch)) (sym (view_absent c.args.name.now (views_of c.self.inside.views.items) (sym missing))))

pub returns : goal.returns
returns c =
    let found = rw c.deref.ensures.value at c.in_ok-place.ensures in
    rw (← c.self.view_is, c.epoch.ensures) (sym (epoch_there c.args.name.now c.self.inside.views.items c.in_ok-place.place (sym found) c.index.result.now c.index.ensures))
