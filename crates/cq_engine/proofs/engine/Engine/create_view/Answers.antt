use Rattle.std.proofs.Common.{◌∙◌, ap, length, refl, subst, sym, inl}
use Rattle.cq_model.specs.declared.query.Query.{Query}
use Rattle.cq_model_state.specs.Fitting.{rows_limit}
use Rattle.cq_views.proofs.Standing.{standing-by_bags}
use Rattle.cq_engine_queue.proofs.Later.{right-built}
use Rattle.cq_engine_tables.proofs.Rows.{bounded_more}
use Rattle.cq_engine_tables.specs.HeldTables.{tables_of}
use Rattle.cq_engine_tables.specs.Views.{AreRight, Fits, IsRight, views_of}
use Rattle.cq_engine.proofs.Kept.{right-behind, viewed-accepted, viewed-order}
use Rattle.cq_engine.specs.Commands.{state_of}
use Rattle.cq_engine.proofs.Counted.{counted-all}
use Rattle.std.proofs.lemmas.Result.{err_from_is_err_and}
use Rattle.cq_engine.proofs.engine.Engine.create_view.Goals as goal

pub create_view_in-requires-clause-limited : goal.create_view_in-requires-clause-limited
create_view_in-requires-clause-limited c =
    rw c.deref.ensures.value (bounded_more c.self.inside.limits.max_rows rows_limit (tables_of c.self.inside.tables.items) c.self.inside.limits.in_range.1 c.self.invariant.limited)

pub invariant_of-self-2 : goal.invariant_of-self-2
invariant_of-self-2 c =
    let e = c.self.inside in
    let tables = tables_of e.tables.items in
    let vs = e.views.items in
    let s = state_of tables (views_of vs) e.writes e.drawn e.queue e.limits.max_rows in
    let made = rw c.deref.ensures.value at c.in_ok-create_view_in.ensures.built in
    let can = rw (← c.self.view_is) at c.requires in
    let v = made.view in
    let is = made.built in
    let right : IsRight s v =
    right-built standing-by_bags s c.self.invariant.history.sound.whole v (ap length made.columns_are ∙ can.shown ∙ sym (ap (λ (d : Query). length d.items) is.is_of))
    (record { fits = subst Fits (sym is.is_of) can.fits; wide = is.wide; stands = is.stands }) is.epoch is.built in
    let all : AreRight s c.create_view_in.new.views.items = rw made.behind (right-behind s vs v c.self.invariant.right right) in
    viewed-order standing-by_bags s vs c.self.invariant refl e.limits.in_range.1 c.create_view_in.new.views.items all

pub returns-clause-done : goal.returns-clause-done
returns-clause-done c =
    let e = c.self.inside in
    let tables = tables_of e.tables.items in
    let vs = e.views.items in
    let s = state_of tables (views_of vs) e.writes e.drawn e.queue e.limits.max_rows in
    let made = rw c.deref.ensures.value at c.in_ok-create_view_in.ensures.built in
    let can = rw (← c.self.view_is) at c.requires in
    let v = made.view in
    let is = made.built in
    let right : IsRight s v =
    right-built standing-by_bags s c.self.invariant.history.sound.whole v (ap length made.columns_are ∙ can.shown ∙ sym (ap (λ (d : Query). length d.items) is.is_of))
    (record { fits = subst Fits (sym is.is_of) can.fits; wide = is.wide; stands = is.stands }) is.epoch is.built in
    let all : AreRight s c.create_view_in.new.views.items = rw made.behind (right-behind s vs v c.self.invariant.right right) in
    rw (← c.self.view_is)
    (refl, viewed-accepted standing-by_bags s vs c.self.invariant refl e.limits.in_range.1 c.create_view_in.new.views.items all c.args.name c.args.columns c.args.query c.in_ok-create_view_in.ensures.created)

pub returns-in_err-create_view_in-clause-counts : goal.returns-in_err-create_view_in-clause-counts
returns-in_err-create_view_in-clause-counts c =
    let p = err_from_is_err_and c.from_residual.result c.from_residual.ensures.1 in
    let e = c.self.inside in
    let vs = e.views.items in
    let s = state_of (tables_of e.tables.items) (views_of vs) e.writes e.drawn e.queue e.limits.max_rows in
    rw (← c.self.view_is, p.1, c.in_err-create_view_in.ensures.err) (inl (counted-all s vs))

pub returns-clause-counts : goal.returns-clause-counts
returns-clause-counts c =
    let made = rw c.deref.ensures.value at c.in_ok-create_view_in.ensures.built in
    rw (← c.self.view_is) (made.view, made.behind, made.built.uncounted)
