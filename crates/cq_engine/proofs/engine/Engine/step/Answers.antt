use Rattle.std.proofs.Common.{inl}
use Rattle.std.proofs.lemmas.Result.{err_from_is_err_and}
use Rattle.cq_binder_queries.specs.Catalog.{alone}
use Rattle.cq_engine_tables.specs.Views.{views_of}
use Rattle.cq_engine.proofs.Binding.{bind_counted, bind_reads, bind_refused, bound_over, carried, carried_counts, carried_late, bound_here, passed_over}
use Rattle.cq_engine.proofs.BoundCommands.{bound_can}
use Rattle.cq_engine.proofs.Counting.{grown_by_none}
use Rattle.cq_engine.proofs.Kept.{all_shown}
use Rattle.cq_engine.proofs.Lengths.{stores-bound}
use Rattle.cq_engine_tables.specs.HeldTables.{tables_of}
use Rattle.cq_engine.specs.Commands.{state_of}
use Rattle.cq_engine.proofs.Counted.{counted-all, counts-bound}
use Rattle.cq_engine.proofs.engine.Engine.step.Goals as goal

pub returns-in_err-bound-clause-step : goal.returns-in_err-bound-clause-step
returns-in_err-bound-clause-step g c =
    let p = err_from_is_err_and c.from_residual.result c.from_residual.ensures.1 in
    let e = c.self.inside in
    let tables = tables_of e.tables.items in
    let views = e.views.items in
    let s = state_of tables (views_of views) e.writes e.drawn e.queue e.limits.max_rows in
    let over = bound_over _ (alone tables (views_of views)) c.args.command.now _ _ _ (rw (c.catalog.ensures.told, ← c.self.view_is) at c.in_err-bound.ensures.bound) in
    rw (p.1, p.2, ← c.self.view_is)
    (over.0, over.1, bind_refused over.0 s c.self.invariant.history.sound.numbered c.args.command.now c.in_err-bound.field-0.0 _ _ over.2)

pub returns-in_err-bound-clause-failures : goal.returns-in_err-bound-clause-failures
returns-in_err-bound-clause-failures g c =
    let p = err_from_is_err_and c.from_residual.result c.from_residual.ensures.1 in
    let e = c.self.inside in
    let tables = tables_of e.tables.items in
    let views = e.views.items in
    let s = state_of tables (views_of views) e.writes e.drawn e.queue e.limits.max_rows in
    let over = bound_over _ (alone tables (views_of views)) c.args.command.now _ _ _ (rw (c.catalog.ensures.told, ← c.self.view_is) at c.in_err-bound.ensures.bound) in
    rw (p.1, p.2)
    (bind_counted over.0 s c.self.invariant.history.sound.numbered c.args.command.now c.in_err-bound.field-0.0 _ _ over.2)

pub returns-in_err-bound-clause-reads : goal.returns-in_err-bound-clause-reads
returns-in_err-bound-clause-reads g c =
    rw (← c.self.view_is)
    (bind_reads (state_of (tables_of c.self.inside.tables.items) (views_of c.self.inside.views.items) c.self.inside.writes c.self.inside.drawn c.self.inside.queue c.self.inside.limits.max_rows) c.args.command.now _ _ (rw (c.catalog.ensures.told, ← c.self.view_is) at c.in_err-bound.ensures.reads))

pub carry_out-requires-clause-bound : goal.carry_out-requires-clause-bound
carry_out-requires-clause-bound g c =
    let e = c.self.inside in
    let tables = tables_of e.tables.items in
    let views = e.views.items in
    let s = state_of tables (views_of views) e.writes e.drawn e.queue e.limits.max_rows in
    let over = bound_over _ (alone tables (views_of views)) c.args.command.now _ _ _ (rw (c.catalog.ensures.told, ← c.self.view_is) at c.in_ok-bound.ensures.bound) in
    let bound = passed_over over.0 (alone tables (views_of views)) c.args.command.now _ _ c.in_ok-bound.bound over.2 in
    rw (← c.self.view_is)
    (bound_can tables (views_of views) e.drawn c.self.invariant.history.sound.numbered c.self.invariant.fitting (all_shown s views c.self.invariant.right) over.0 c.args.command.now c.in_ok-bound.bound bound.1 bound.2)

pub returns-clause-step : goal.returns-clause-step
returns-clause-step g c =
    let e = c.self.inside in
    let tables = tables_of e.tables.items in
    let views = e.views.items in
    let s = state_of tables (views_of views) e.writes e.drawn e.queue e.limits.max_rows in
    let over = bound_over _ (alone tables (views_of views)) c.args.command.now _ _ _ (rw (c.catalog.ensures.told, ← c.self.view_is) at c.in_ok-bound.ensures.bound) in
    let bound = passed_over over.0 (alone tables (views_of views)) c.args.command.now _ _ c.in_ok-bound.bound over.2 in
    let done = rw (← c.self.view_is) at c.carry_out.ensures.done in
    rw (← c.self.view_is)
    (over.0, over.1, carried over.0 s c.self.invariant.history.sound.numbered c.args.command.now c.in_ok-bound.bound bound.1 bound.2 c.carry_out.result c.carry_out.new.self.state done)

pub returns-clause-rows : goal.returns-clause-rows
returns-clause-rows g c =
    let e = c.self.inside in
    let tables = tables_of e.tables.items in
    let views = e.views.items in
    let s = state_of tables (views_of views) e.writes e.drawn e.queue e.limits.max_rows in
    let over = bound_over _ (alone tables (views_of views)) c.args.command.now _ _ _ (rw (c.catalog.ensures.told, ← c.self.view_is) at c.in_ok-bound.ensures.bound) in
    let bound = passed_over over.0 (alone tables (views_of views)) c.args.command.now _ _ c.in_ok-bound.bound over.2 in
    let late = rw (← c.self.view_is) at c.carry_out.ensures.rows in
    rw (← c.self.view_is) (carried_late over.0 s c.self.invariant.history.sound.numbered c.args.command.now c.in_ok-bound.bound bound.1 bound.2 _ over.1 c.carry_out.result c.carry_out.new.self.state late)

pub returns-clause-failures : goal.returns-clause-failures
returns-clause-failures g c =
    let e = c.self.inside in
    let tables = tables_of e.tables.items in
    let views = e.views.items in
    let s = state_of tables (views_of views) e.writes e.drawn e.queue e.limits.max_rows in
    let over = bound_over _ (alone tables (views_of views)) c.args.command.now _ _ _ (rw (c.catalog.ensures.told, ← c.self.view_is) at c.in_ok-bound.ensures.bound) in
    let bound = passed_over over.0 (alone tables (views_of views)) c.args.command.now _ _ c.in_ok-bound.bound over.2 in
    let done = rw (← c.self.view_is) at c.carry_out.ensures.done in
    grown_by_none _ _ _ bound.0
    (carried_counts over.0 s c.self.invariant.history.sound.numbered c.args.command.now c.in_ok-bound.bound bound.1 bound.2 c.carry_out.result c.carry_out.new.self.state done)

pub returns-clause-reads : goal.returns-clause-reads
returns-clause-reads g c =
    rw (← c.self.view_is)
    (bind_reads (state_of (tables_of c.self.inside.tables.items) (views_of c.self.inside.views.items) c.self.inside.writes c.self.inside.drawn c.self.inside.queue c.self.inside.limits.max_rows) c.args.command.now _ _ (rw (c.catalog.ensures.told, ← c.self.view_is) at c.in_ok-bound.ensures.reads))

pub returns-clause-stores : goal.returns-clause-stores
returns-clause-stores g c =
    let e = c.self.inside in
    let tables = tables_of e.tables.items in
    let views = e.views.items in
    let s = state_of tables (views_of views) e.writes e.drawn e.queue e.limits.max_rows in
    let over = bound_over _ (alone tables (views_of views)) c.args.command.now _ _ _ (rw (c.catalog.ensures.told, ← c.self.view_is) at c.in_ok-bound.ensures.bound) in
    let bound = passed_over over.0 (alone tables (views_of views)) c.args.command.now _ _ c.in_ok-bound.bound over.2 in
    let here = bound_here over.0 s c.self.invariant.history.sound.numbered c.args.command.now c.in_ok-bound.bound bound.1 bound.2 in
    stores-bound _ over.0 c.args.self.now c.carry_out.new.self c.args.command.now c.in_ok-bound.bound c.carry_out.result over.1 (rw (← c.self.view_is) here) c.carry_out.ensures.stores

pub returns-in_err-bound-clause-counts : goal.returns-in_err-bound-clause-counts
returns-in_err-bound-clause-counts g c =
    let p = err_from_is_err_and c.from_residual.result c.from_residual.ensures.1 in
    let e = c.self.inside in
    let vs = e.views.items in
    let s = state_of (tables_of e.tables.items) (views_of vs) e.writes e.drawn e.queue e.limits.max_rows in
    rw (p.1, ← c.self.view_is) (inl (counted-all s vs))

pub returns-clause-counts : goal.returns-clause-counts
returns-clause-counts g c =
    let e = c.self.inside in
    let tables = tables_of e.tables.items in
    let views = e.views.items in
    let s = state_of tables (views_of views) e.writes e.drawn e.queue e.limits.max_rows in
    let over = bound_over _ (alone tables (views_of views)) c.args.command.now _ _ _ (rw (c.catalog.ensures.told, ← c.self.view_is) at c.in_ok-bound.ensures.bound) in
    let bound = passed_over over.0 (alone tables (views_of views)) c.args.command.now _ _ c.in_ok-bound.bound over.2 in
    let here = bound_here over.0 s c.self.invariant.history.sound.numbered c.args.command.now c.in_ok-bound.bound bound.1 bound.2 in
    counts-bound _ over.0 c.args.self.now c.carry_out.new.self c.args.command.now c.in_ok-bound.bound c.carry_out.result over.1 (rw (← c.self.view_is) here) c.carry_out.ensures.counts
