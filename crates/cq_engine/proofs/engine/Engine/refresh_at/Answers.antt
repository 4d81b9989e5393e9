use Rattle.std.proofs.Common.{inl, inr, refl}
use Rattle.std.proofs.lemmas.Result.{err_from_is_err_and}
use Rattle.cq_binder_rules.specs.declared.bound.Bound.TheVariants as commands
use Rattle.cq_views.proofs.Standing.{standing-by_bags}
use Rattle.cq_engine_tables.specs.HeldTables.{tables_of}
use Rattle.cq_engine_tables.specs.Views.{views_of}
use Rattle.cq_engine.proofs.Kept.{all-within, refreshed-accepted, trimmed-order, viewed, viewed-order}
use Rattle.cq_engine.proofs.Steps.{gave-up}
use Rattle.cq_engine.specs.Commands.{state_of}
use Rattle.cq_engine.proofs.engine.Engine.refresh_at.Goals as goal

pub take_all_on-requires : goal.take_all_on-requires
take_all_on-requires c =
    let e = c.self.inside in
    let tables = tables_of e.tables.items in
    let vs = e.views.items in
    let s = state_of tables (views_of vs) e.writes e.drawn e.queue e.limits.max_rows in
    record { state = s; queue = record { passed = refl; changes = refl }; history = c.self.invariant.history; right = c.self.invariant.right; now = refl }

pub invariant_of-self : goal.invariant_of-self
invariant_of-self c =
    let e = c.self.inside in
    let tables = tables_of e.tables.items in
    let vs = e.views.items in
    let s = state_of tables (views_of vs) e.writes e.drawn e.queue e.limits.max_rows in
    viewed-order standing-by_bags s vs c.self.invariant refl e.limits.in_range.1 c.take_all_on.new.views.items (c.take_all_on.ensures.right s (record { passed = refl; changes = refl }) c.self.invariant.history c.self.invariant.right)

pub returns-in_err-take_all_on-clause-done : goal.returns-in_err-take_all_on-clause-done
returns-in_err-take_all_on-clause-done c =
    let p = err_from_is_err_and c.from_residual.result c.from_residual.ensures.1 in
    let e = c.self.inside in
    let tables = tables_of e.tables.items in
    let vs = e.views.items in
    let s = state_of tables (views_of vs) e.writes e.drawn e.queue e.limits.max_rows in
    rw (← c.self.view_is, p.1, p.2) (inr (refl, inl refl, gave-up s (commands.Refresh c.args.view c.args.changes) (views_of c.take_all_on.new.views.items) c.take_all_on.ensures.way))

pub returns-in_err-take_all_on-clause-way : goal.returns-in_err-take_all_on-clause-way
returns-in_err-take_all_on-clause-way c =
    let p = err_from_is_err_and c.from_residual.result c.from_residual.ensures.1 in
    let e = c.self.inside in
    let s = state_of (tables_of e.tables.items) (views_of e.views.items) e.writes e.drawn e.queue e.limits.max_rows in
    rw (← c.self.view_is, p.1) (gave-up s (commands.Refresh c.args.view c.args.changes) (views_of c.take_all_on.new.views.items) c.take_all_on.ensures.way)

pub trim-requires-clause-within : goal.trim-requires-clause-within
trim-requires-clause-within c =
    let e = c.self.inside in
    let tables = tables_of e.tables.items in
    let vs = e.views.items in
    let s = state_of tables (views_of vs) e.writes e.drawn e.queue e.limits.max_rows in
    let ws = c.take_all_on.new.views.items in
    let right = c.take_all_on.ensures.right s (record { passed = refl; changes = refl }) c.self.invariant.history c.self.invariant.right in
    rw c.deref.ensures.value (all-within s e.queue refl refl c.self.invariant.history.sound.whole ws right)

pub invariant_of-self-2 : goal.invariant_of-self-2
invariant_of-self-2 c =
    let e = c.self.inside in
    let tables = tables_of e.tables.items in
    let vs = e.views.items in
    let s = state_of tables (views_of vs) e.writes e.drawn e.queue e.limits.max_rows in
    let ws = c.take_all_on.new.views.items in
    let right = c.take_all_on.ensures.right s (record { passed = refl; changes = refl }) c.self.invariant.history c.self.invariant.right in
    let trimmed = rw c.deref.ensures.value at c.trim.ensures in
    trimmed-order standing-by_bags (viewed standing-by_bags s vs c.self.invariant refl e.limits.in_range.1 ws right) ws (viewed-order standing-by_bags s vs c.self.invariant refl e.limits.in_range.1 ws right) refl e.limits.in_range.1 c.trim.new.queue trimmed

pub returns-clause-done : goal.returns-clause-done
returns-clause-done c =
    let e = c.self.inside in
    let tables = tables_of e.tables.items in
    let vs = e.views.items in
    let s = state_of tables (views_of vs) e.writes e.drawn e.queue e.limits.max_rows in
    let ws = c.take_all_on.new.views.items in
    let right = c.take_all_on.ensures.right s (record { passed = refl; changes = refl }) c.self.invariant.history c.self.invariant.right in
    let trimmed = rw c.deref.ensures.value at c.trim.ensures in
    rw (← c.self.view_is) (refl, refreshed-accepted standing-by_bags s vs c.self.invariant refl e.limits.in_range.1 ws right c.trim.new.queue trimmed c.args.view c.args.changes c.in_ok-take_all_on.ensures.ok)

pub returns-in_err-take_all_on-clause-counts : goal.returns-in_err-take_all_on-clause-counts
returns-in_err-take_all_on-clause-counts c =
    let p = err_from_is_err_and c.from_residual.result c.from_residual.ensures.1 in
    let e = c.self.inside in
    let vs = e.views.items in
    let s = state_of (tables_of e.tables.items) (views_of vs) e.writes e.drawn e.queue e.limits.max_rows in
    rw (← c.self.view_is, p.1, p.2) (inr (refl, c.take_all_on.ensures.begun s (record { passed = refl; changes = refl }) c.self.invariant.history c.self.invariant.right))

pub returns-clause-counts : goal.returns-clause-counts
returns-clause-counts c =
    let e = c.self.inside in
    let vs = e.views.items in
    let s = state_of (tables_of e.tables.items) (views_of vs) e.writes e.drawn e.queue e.limits.max_rows in
    rw (← c.self.view_is) (c.in_ok-take_all_on.ensures.counts s (record { passed = refl; changes = refl }) c.self.invariant.history c.self.invariant.right)
