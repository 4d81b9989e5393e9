use Rattle.std.proofs.Common.{refl}
use Rattle.cq_views.proofs.Standing.{standing-by_bags}
use Rattle.cq_engine_tables.specs.HeldTables.{tables_of}
use Rattle.cq_engine_tables.specs.Views.{views_of}
use Rattle.cq_engine.proofs.Kept.{dropped-accepted, dropped-order}
use Rattle.cq_engine.specs.Commands.{state_of}
use Rattle.cq_engine.proofs.Counted.{counted-all}
use Rattle.cq_engine.proofs.engine.Engine.drop_table.Goals as goal

pub invariant_of-self : goal.invariant_of-self
invariant_of-self c =
    let e = c.self.inside in
    let tables = tables_of e.tables.items in
    let vs = e.views.items in
    let s = state_of tables (views_of vs) e.writes e.drawn e.queue e.limits.max_rows in
    let bound = rw (← c.self.view_is) at c.requires in
    rw c.drop_in.ensures.left (dropped-order standing-by_bags s vs c.self.invariant refl e.limits.in_range.1 c.args.number bound.0 bound.1)

pub returns-clause-done : goal.returns-clause-done
returns-clause-done c =
    let e = c.self.inside in
    let tables = tables_of e.tables.items in
    let vs = e.views.items in
    let s = state_of tables (views_of vs) e.writes e.drawn e.queue e.limits.max_rows in
    let bound = rw (← c.self.view_is) at c.requires in
    rw (← c.self.view_is, c.drop_in.ensures.left) (refl, dropped-accepted standing-by_bags s vs c.self.invariant refl e.limits.in_range.1 c.args.number bound.0)

pub returns-clause-stores : goal.returns-clause-stores
returns-clause-stores c = rw (← c.self.view_is) c.drop_in.ensures.lengths

pub returns-clause-counts : goal.returns-clause-counts
returns-clause-counts c =
    let e = c.self.inside in
    let vs = e.views.items in
    let s = state_of (tables_of e.tables.items) (views_of vs) e.writes e.drawn e.queue e.limits.max_rows in
    rw (← c.self.view_is) (counted-all s vs)
