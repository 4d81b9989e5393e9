use Rattle.std.proofs.Common.{inl, inr, refl}
use Rattle.std.proofs.lemmas.Result.{err_from_is_err_and}
use Rattle.cq_model_state.specs.Fitting.{rows_limit}
use Rattle.cq_binder_rules.specs.declared.bound.Bound.TheVariants as commands
use Rattle.cq_views.proofs.Standing.{standing-by_bags}
use Rattle.cq_engine_tables.proofs.Rows.{bounded_more}
use Rattle.cq_engine_tables.specs.HeldTables.{tables_of}
use Rattle.cq_engine_tables.specs.Views.{views_of}
use Rattle.cq_engine.proofs.Kept.{selected-accepted, viewed-order}
use Rattle.cq_engine.proofs.Steps.{gave-up, select-refused}
use Rattle.cq_engine.specs.Commands.{state_of}
use Rattle.cq_engine.proofs.Counted.{counts-refused}
use Rattle.cq_engine.proofs.engine.Engine.select.Goals as goal

pub select_at_present-selected-requires : goal.select_at_present-selected-requires
select_at_present-selected-requires c =
    let e = c.self.inside in
    let tables = tables_of e.tables.items in
    let vs = e.views.items in
    let s = state_of tables (views_of vs) e.writes e.drawn e.queue e.limits.max_rows in
    rw c.deref.ensures.value (record {
      state = s;
      tables_are = refl;
      queue_is = record { passed = refl; changes = refl };
      now_is = refl;
      history = c.self.invariant.history;
      right = c.self.invariant.right;
      fitting = c.self.invariant.fitting;
      limited = bounded_more e.limits.max_rows rows_limit tables e.limits.in_range.1 c.self.invariant.limited;
      can = rw (← c.self.view_is) at c.requires;
    })

pub invariant_of-self : goal.invariant_of-self
invariant_of-self c =
    let e = c.self.inside in
    let tables = tables_of e.tables.items in
    let vs = e.views.items in
    let s = state_of tables (views_of vs) e.writes e.drawn e.queue e.limits.max_rows in
    viewed-order standing-by_bags s vs c.self.invariant refl e.limits.in_range.1 c.select_at_present-selected.new.views.items (c.select_at_present-selected.ensures.right s (record { passed = refl; changes = refl }) c.self.invariant.history c.self.invariant.right)

pub invariant_of-self-2 : goal.invariant_of-self-2
invariant_of-self-2 c =
    let e = c.self.inside in
    let tables = tables_of e.tables.items in
    let vs = e.views.items in
    let s = state_of tables (views_of vs) e.writes e.drawn e.queue e.limits.max_rows in
    viewed-order standing-by_bags s vs c.self.invariant refl e.limits.in_range.1 c.select_at_present-selected.new.views.items (c.select_at_present-selected.ensures.right s (record { passed = refl; changes = refl }) c.self.invariant.history c.self.invariant.right)

pub returns-in_err-rows-clause-done : goal.returns-in_err-rows-clause-done
returns-in_err-rows-clause-done c =
    let p = err_from_is_err_and c.from_residual.result c.from_residual.ensures.1 in
    let e = c.self.inside in
    let tables = tables_of e.tables.items in
    let vs = e.views.items in
    let s = state_of tables (views_of vs) e.writes e.drawn e.queue e.limits.max_rows in
    let refused = rw c.deref.ensures.value at c.in_err-rows.ensures.selects in
    rw (p.1, p.2, ← c.self.view_is) (select-refused s c.args.header c.args.query c.args.order c.in_err-rows.field-0.0 (views_of c.select_at_present-selected.new.views.items) refused c.select_at_present-selected.ensures.way)

pub returns-clause-done : goal.returns-clause-done
returns-clause-done c =
    let e = c.self.inside in
    let tables = tables_of e.tables.items in
    let vs = e.views.items in
    let s = state_of tables (views_of vs) e.writes e.drawn e.queue e.limits.max_rows in
    let selects = rw c.deref.ensures.value at c.in_ok-rows.ensures.selects in
    let ws = c.select_at_present-selected.new.views.items in
    let right = c.select_at_present-selected.ensures.right s (record { passed = refl; changes = refl }) c.self.invariant.history c.self.invariant.right in
    rw (← c.self.view_is)
    (refl, selected-accepted standing-by_bags s vs c.self.invariant refl e.limits.in_range.1 ws right c.args.header c.args.query c.args.order c.in_ok-rows.rows c.in_ok-rows.ensures.ok selects)

-- without memory for their text it might as well have been refused
pub returns-clause-rows : goal.returns-clause-rows
returns-clause-rows c =
    let e = c.self.inside in
    let tables = tables_of e.tables.items in
    let vs = e.views.items in
    let s = state_of tables (views_of vs) e.writes e.drawn e.queue e.limits.max_rows in
    rw (← c.self.view_is) (inr (refl, inl refl, gave-up s (commands.Select c.args.header c.args.query c.args.order) (views_of c.select_at_present-selected.new.views.items) c.select_at_present-selected.ensures.way))

pub returns-in_err-rows-clause-counts : goal.returns-in_err-rows-clause-counts
returns-in_err-rows-clause-counts c =
    let p = err_from_is_err_and c.from_residual.result c.from_residual.ensures.1 in
    let e = c.self.inside in
    let vs = e.views.items in
    let s = state_of (tables_of e.tables.items) (views_of vs) e.writes e.drawn e.queue e.limits.max_rows in
    rw (p.1, p.2, ← c.self.view_is)
    (counts-refused s c.args.header c.args.query c.args.order e.queue e.views c.select_at_present-selected.new.views c.in_err-rows.field-0.0 (record { passed = refl; changes = refl }) c.self.invariant.history c.self.invariant.right refl c.in_err-rows.ensures.counts)

pub returns-clause-counts : goal.returns-clause-counts
returns-clause-counts c =
    let e = c.self.inside in
    let vs = e.views.items in
    let s = state_of (tables_of e.tables.items) (views_of vs) e.writes e.drawn e.queue e.limits.max_rows in
    rw (← c.self.view_is) (c.in_ok-rows.ensures.counts s (record { passed = refl; changes = refl }) c.self.invariant.history c.self.invariant.right)
