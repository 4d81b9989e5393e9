use Rattle.std.proofs.Common.{ap, ◌∙◌, refl, inl}
use Rattle.std.proofs.lemmas.Result.{err_from_is_err_and}
use Rattle.cq_model_state.specs.State.{TableOf, empty_table}
use Rattle.cq_views.proofs.Standing.{standing-by_bags}
use Rattle.cq_engine_tables.proofs.HeldTables.{change-behind, tables_behind}
use Rattle.cq_engine_tables.specs.HeldTables.{tables_of}
use Rattle.cq_engine_tables.specs.Views.{views_of}
use Rattle.cq_engine.proofs.Kept.{created-accepted, created-order}
use Rattle.cq_engine.proofs.Lengths.{same-lengths}
use Rattle.cq_engine.specs.Commands.{state_of}
use Rattle.cq_engine.proofs.Counted.{counted-all}
use Rattle.cq_engine.proofs.engine.Engine.create.Goals as goal

pub invariant_of-self-2 : goal.invariant_of-self-2
invariant_of-self-2 c =
    let e = c.self.inside in
    let tables = tables_of e.tables.items in
    let vs = e.views.items in
    let s = state_of tables (views_of vs) e.writes e.drawn e.queue e.limits.max_rows in
    let behind = ap tables_of c.in_ok-push.ensures.items ∙ tables_behind e.tables.items c.new-table.result (empty_table e.drawn c.args.name c.args.columns c.args.sort) c.new-table.ensures.table in
    rw behind (created-order standing-by_bags s vs c.self.invariant refl e.limits.in_range.1 c.args.name c.args.columns c.args.sort)

pub returns-clause-done : goal.returns-clause-done
returns-clause-done c =
    let e = c.self.inside in
    let tables = tables_of e.tables.items in
    let vs = e.views.items in
    let s = state_of tables (views_of vs) e.writes e.drawn e.queue e.limits.max_rows in
    let behind = ap tables_of c.in_ok-push.ensures.items ∙ tables_behind e.tables.items c.new-table.result (empty_table e.drawn c.args.name c.args.columns c.args.sort) c.new-table.ensures.table in
    rw (← c.self.view_is, behind) (refl, created-accepted standing-by_bags s vs c.self.invariant refl e.limits.in_range.1 c.args.name c.args.columns c.args.sort)

pub returns-in_err-push-clause-stores : goal.returns-in_err-push-clause-stores
returns-in_err-push-clause-stores c =
    let p = err_from_is_err_and c.from_residual.result c.from_residual.ensures.1 in
    rw (← c.self.view_is, p.1) (same-lengths c.self.inside.tables.items c.push.new.self.items c.in_err-push.ensures.items)

pub returns-clause-stores : goal.returns-clause-stores
returns-clause-stores c =
    let t = c.new-table.result in
    let number = ap (λ (u : TableOf). u.number) c.new-table.ensures.table in
    rw (← c.self.view_is, c.in_ok-push.ensures.items) (change-behind t c.self.inside.drawn number c.new-table.ensures.lengths c.self.inside.tables.items c.self.invariant.history.sound.numbered)

pub returns-in_err-push-clause-counts : goal.returns-in_err-push-clause-counts
returns-in_err-push-clause-counts c =
    let p = err_from_is_err_and c.from_residual.result c.from_residual.ensures.1 in
    let e = c.self.inside in
    let vs = e.views.items in
    let s = state_of (tables_of e.tables.items) (views_of vs) e.writes e.drawn e.queue e.limits.max_rows in
    rw (← c.self.view_is, p.1) (inl (counted-all s vs))

pub returns-clause-counts : goal.returns-clause-counts
returns-clause-counts c =
    let e = c.self.inside in
    let vs = e.views.items in
    let s = state_of (tables_of e.tables.items) (views_of vs) e.writes e.drawn e.queue e.limits.max_rows in
    rw (← c.self.view_is) (counted-all s vs)
