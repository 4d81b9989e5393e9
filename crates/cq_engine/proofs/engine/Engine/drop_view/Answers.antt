use Rattle.std.proofs.Common.{◌∙◌, ap, refl, sym}
use Rattle.cq_views.proofs.Standing.{standing-by_bags}
use Rattle.cq_engine_tables.proofs.Images.{remove-map}
use Rattle.cq_engine_tables.proofs.Named.{right_without}
use Rattle.cq_engine_tables.specs.HeldTables.{tables_of}
use Rattle.cq_engine_tables.specs.Views.{AreRight, view_of, views_of}
use Rattle.cq_engine.proofs.Kept.{all-within, trimmed-order, unviewed-accepted, viewed, viewed-order}
use Rattle.cq_engine.specs.Commands.{state_of}
use Rattle.cq_engine.proofs.engine.Engine.drop_view.Goals as goal

pub trim-requires-clause-within : goal.trim-requires-clause-within
trim-requires-clause-within c =
    let e = c.self.inside in
    let tables = tables_of e.tables.items in
    let vs = e.views.items in
    let s = state_of tables (views_of vs) e.writes e.drawn e.queue e.limits.max_rows in
    let left = c.drop_view_at.new.views.items in
    let right : AreRight s left = rw c.drop_view_at.ensures (right_without s vs c.args.place c.self.invariant.right) in
    rw c.deref.ensures.value (all-within s e.queue refl refl c.self.invariant.history.sound.whole left right)

pub invariant_of-self : goal.invariant_of-self
invariant_of-self c =
    let e = c.self.inside in
    let tables = tables_of e.tables.items in
    let vs = e.views.items in
    let s = state_of tables (views_of vs) e.writes e.drawn e.queue e.limits.max_rows in
    let left = c.drop_view_at.new.views.items in
    let right : AreRight s left = rw c.drop_view_at.ensures (right_without s vs c.args.place c.self.invariant.right) in
    let trimmed = rw c.deref.ensures.value at c.trim.ensures in
    trimmed-order standing-by_bags (viewed standing-by_bags s vs c.self.invariant refl e.limits.in_range.1 left right) left (viewed-order standing-by_bags s vs c.self.invariant refl e.limits.in_range.1 left right) refl e.limits.in_range.1 c.trim.new.queue trimmed

pub returns-clause-done : goal.returns-clause-done
returns-clause-done c =
    let e = c.self.inside in
    let tables = tables_of e.tables.items in
    let vs = e.views.items in
    let s = state_of tables (views_of vs) e.writes e.drawn e.queue e.limits.max_rows in
    let left = c.drop_view_at.new.views.items in
    let right : AreRight s left = rw c.drop_view_at.ensures (right_without s vs c.args.place c.self.invariant.right) in
    let trimmed = rw c.deref.ensures.value at c.trim.ensures in
    rw (← c.self.view_is)
    (refl, unviewed-accepted standing-by_bags s vs c.self.invariant refl e.limits.in_range.1 left right c.trim.new.queue trimmed c.args.place (ap views_of c.drop_view_at.ensures ∙ sym (remove-map view_of vs c.args.place)))

pub returns-clause-counts : goal.returns-clause-counts
returns-clause-counts c = rw (← c.self.view_is) c.drop_view_at.ensures
