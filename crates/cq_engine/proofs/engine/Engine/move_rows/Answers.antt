use Rattle.std.proofs.Common.{refl, inl}
use Rattle.std.proofs.lemmas.Result.{err_from_is_err_and}
use Rattle.cq_binder_rules.specs.declared.bound.Bound.TheVariants as commands
use Rattle.cq_model_step.specs.declared.answer.Answer.TheVariants.{Done}
use Rattle.cq_engine_tables.specs.HeldTables.{tables_of}
use Rattle.cq_engine_tables.specs.Views.{views_of}
use Rattle.cq_engine.proofs.Lengths.{same-lengths}
use Rattle.cq_engine.proofs.Steps.{unwritten}
use Rattle.cq_engine.specs.Commands.{state_of}
use Rattle.cq_engine.proofs.Counted.{counted-all}
use Rattle.cq_engine.proofs.engine.Engine.move_rows.Goals as goal

pub returns-clause-done : goal.returns-clause-done
returns-clause-done c =
    let e = c.self.inside in
    let tables = tables_of e.tables.items in
    let s = state_of tables (views_of e.views.items) e.writes e.drawn e.queue e.limits.max_rows in
    rw (← c.self.view_is, c.in_ok-move_in.ensures.same) (refl, unwritten s s (commands.Move c.args.table c.args.rows) Done c.self.invariant.history.sound.epochs (refl, refl))

pub returns-in_err-move_in-clause-stores : goal.returns-in_err-move_in-clause-stores
returns-in_err-move_in-clause-stores c =
    let p = err_from_is_err_and c.from_residual.result c.from_residual.ensures.1 in
    rw (← c.self.view_is, p.1) (same-lengths c.self.inside.tables.items c.move_in.new.tables.items c.in_err-move_in.ensures.err)

pub returns-clause-stores : goal.returns-clause-stores
returns-clause-stores c = rw (← c.self.view_is) c.in_ok-move_in.ensures.lengths

pub returns-in_err-move_in-clause-counts : goal.returns-in_err-move_in-clause-counts
returns-in_err-move_in-clause-counts c =
    let p = err_from_is_err_and c.from_residual.result c.from_residual.ensures.1 in
    let e = c.self.inside in
    let vs = e.views.items in
    let s = state_of (tables_of e.tables.items) (views_of vs) e.writes e.drawn e.queue e.limits.max_rows in
    rw (← c.self.view_is, p.1) (inl (counted-all s vs))

pub returns-clause-counts : goal.returns-clause-counts
returns-clause-counts c =
    let e = c.self.inside in
    let vs = e.views.items in
    let s = state_of (tables_of e.tables.items) (views_of vs) e.writes e.drawn e.queue e.limits.max_rows in
    rw (← c.self.view_is) (counted-all s vs)
