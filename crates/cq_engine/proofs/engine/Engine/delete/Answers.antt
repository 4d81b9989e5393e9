use Rattle.std.proofs.Common.{Bool, not, ap, arith, inl, length, refl, subst, sym}
use Rattle.std.proofs.lemmas.Result.{err_from_is_err_and}
use Rattle.cq_binder_rules.specs.declared.bound.Bound.TheVariants as commands
use Rattle.cq_model.specs.Write.{left_by}
use Rattle.cq_engine_writes.proofs.Written.{left_bounded, left_fit}
use Rattle.cq_model_state.specs.State.{State, rows_in}
use Rattle.cq_model_state.specs.Fitting.{rows_limit}
use Rattle.cq_model_step.specs.declared.answer.Answer.TheVariants.{Count}
use Rattle.cq_views.proofs.Standing.{standing-by_bags}
use Rattle.cq_engine_tables.proofs.Rows.{bounded_more}
use Rattle.cq_engine_tables.specs.HeldTables.{tables_of}
use Rattle.cq_engine_tables.specs.Views.{views_of}
use Rattle.cq_engine.proofs.Kept.{all-within, behind-accepted, behind-order, none-asked, room-told, same-state}
use Rattle.cq_engine.proofs.Lengths.{same-lengths}
use Rattle.cq_engine.specs.Commands.{IsInOrder, state_of}
use Rattle.cq_engine.proofs.Counted.{counted-all}
use Rattle.cq_engine.proofs.engine.Engine.delete.Goals as goal

pub delete_in-deleted-requires-clause-limited : goal.delete_in-deleted-requires-clause-limited
delete_in-deleted-requires-clause-limited c = bounded_more c.self.inside.limits.max_rows rows_limit (tables_of c.self.inside.tables.items) c.self.inside.limits.in_range.1 c.self.invariant.limited

-- a write that is refused changes nothing
pub invariant_of-self : goal.invariant_of-self
invariant_of-self c =
    let e = c.self.inside in
    let tables = tables_of e.tables.items in
    let vs = e.views.items in
    let s = state_of tables (views_of vs) e.writes e.drawn e.queue e.limits.max_rows in
    let same = same-state tables (tables_of c.delete_in-deleted.new.tables.items) (views_of vs) e.writes e.drawn e.limits.max_rows e.queue c.delete_in-deleted.new.queue (ap tables_of c.in_err-rows.ensures.err) c.delete_in-deleted.ensures.queue in
    subst (λ (t : State). IsInOrder t vs) (sym same) c.self.invariant

pub returns-in_err-rows-clause-done : goal.returns-in_err-rows-clause-done
returns-in_err-rows-clause-done c =
    let p = err_from_is_err_and c.from_residual.result c.from_residual.ensures.1 in
    let e = c.self.inside in
    let tables = tables_of e.tables.items in
    let vs = e.views.items in
    let s = state_of tables (views_of vs) e.writes e.drawn e.queue e.limits.max_rows in
    let same = same-state tables (tables_of c.delete_in-deleted.new.tables.items) (views_of vs) e.writes e.drawn e.limits.max_rows e.queue c.delete_in-deleted.new.queue (ap tables_of c.in_err-rows.ensures.err) c.delete_in-deleted.ensures.queue in
    rw (← c.self.view_is, p.1, p.2) (inl (tt, same))

-- each view is at an epoch of the queue, and where there are views, the change is told
pub note-requires-clause-within : goal.note-requires-clause-within
note-requires-clause-within c =
    let e = c.self.inside in
    let tables = tables_of e.tables.items in
    let vs = e.views.items in
    let s = state_of tables (views_of vs) e.writes e.drawn e.queue e.limits.max_rows in
    rw c.deref.ensures.value (all-within s c.delete_in-deleted.new.queue c.delete_in-deleted.ensures.queue.passed c.delete_in-deleted.ensures.queue.changes c.self.invariant.history.sound.whole vs c.self.invariant.right)

pub note-requires-clause-room : goal.note-requires-clause-room
note-requires-clause-room c = room-told c.in_ok-rows.change _ c.delete_in-deleted.new.queue.room c.in_ok-rows.ensures.change.there c.in_ok-rows.ensures.room

pub note-requires-clause-told : goal.note-requires-clause-told
note-requires-clause-told c = rw c.deref.ensures.value (none-asked c.self.inside.views.items _ _ c.in_ok-rows.change c.self.inside.views.ok.0 (ap (λ (b : Bool). not b) c.is_empty-asked.ensures) c.in_ok-rows.ensures.change.there)

pub note-requires-clause-range : goal.note-requires-clause-range
note-requires-clause-range c =
    let drawn = rw (← c.self.view_is) at c.requires.drawn in
    omega (arith, drawn, c.delete_in-deleted.ensures.queue.passed, ap length c.delete_in-deleted.ensures.queue.changes, c.self.invariant.history.sound.whole, c.self.invariant.history.sound.drawn)

pub invariant_of-self-2 : goal.invariant_of-self-2
invariant_of-self-2 c =
    let e = c.self.inside in
    let tables = tables_of e.tables.items in
    let vs = e.views.items in
    let s = state_of tables (views_of vs) e.writes e.drawn e.queue e.limits.max_rows in
    let told = c.in_ok-rows.change in
    let bound = rw (← c.self.view_is) at c.requires.bound in
    let drawn = rw (← c.self.view_is) at c.requires.drawn in
    let none = none-asked vs _ _ told e.views.ok.0 (ap (λ (b : Bool). not b) c.is_empty-asked.ensures) c.in_ok-rows.ensures.change.there in
    let notes = rw c.deref.ensures.value at c.note.ensures in
    let rows = left_by c.args.condition (rows_in tables c.args.table) in
    let command = commands.Delete c.args.table c.args.condition in
    let accepted = behind-accepted standing-by_bags s vs c.self.invariant refl c.args.table rows _ told c.delete_in-deleted.new.queue c.note.new.queue c.delete_in-deleted.ensures.queue.passed c.delete_in-deleted.ensures.queue.changes none c.in_ok-rows.ensures.change notes command (Count c.in_ok-rows.rows) (λ w. (ap Count c.in_ok-rows.ensures.count, w)) in
    rw c.in_ok-rows.ensures.left (behind-order standing-by_bags s vs c.self.invariant refl c.args.table rows _ told c.delete_in-deleted.new.queue c.note.new.queue c.delete_in-deleted.ensures.queue.passed c.delete_in-deleted.ensures.queue.changes none c.in_ok-rows.ensures.change notes command (Count c.in_ok-rows.rows) bound.0 bound.0 accepted e.limits.in_range.1
    (omega (arith, drawn, c.self.invariant.history.sound.drawn)) (left_fit c.args.table c.args.condition tables e.drawn c.self.invariant.history.sound.numbered c.self.invariant.fitting) (left_bounded c.args.table c.args.condition tables e.limits.max_rows c.self.invariant.limited))

pub returns-clause-done : goal.returns-clause-done
returns-clause-done c =
    let e = c.self.inside in
    let tables = tables_of e.tables.items in
    let vs = e.views.items in
    let s = state_of tables (views_of vs) e.writes e.drawn e.queue e.limits.max_rows in
    let told = c.in_ok-rows.change in
    let none = none-asked vs _ _ told e.views.ok.0 (ap (λ (b : Bool). not b) c.is_empty-asked.ensures) c.in_ok-rows.ensures.change.there in
    let notes = rw c.deref.ensures.value at c.note.ensures in
    let rows = left_by c.args.condition (rows_in tables c.args.table) in
    let command = commands.Delete c.args.table c.args.condition in
    rw (← c.self.view_is, c.in_ok-rows.ensures.left) (refl, behind-accepted standing-by_bags s vs c.self.invariant refl c.args.table rows _ told c.delete_in-deleted.new.queue c.note.new.queue c.delete_in-deleted.ensures.queue.passed c.delete_in-deleted.ensures.queue.changes none c.in_ok-rows.ensures.change notes command (Count c.in_ok-rows.rows) (λ w. (ap Count c.in_ok-rows.ensures.count, w)))

pub returns-in_err-rows-clause-stores : goal.returns-in_err-rows-clause-stores
returns-in_err-rows-clause-stores c =
    let p = err_from_is_err_and c.from_residual.result c.from_residual.ensures.1 in
    rw (← c.self.view_is, p.1) (same-lengths c.self.inside.tables.items c.delete_in-deleted.new.tables.items c.in_err-rows.ensures.err)

pub returns-clause-stores : goal.returns-clause-stores
returns-clause-stores c = rw (← c.self.view_is) c.in_ok-rows.ensures.lengths

pub returns-in_err-rows-clause-counts : goal.returns-in_err-rows-clause-counts
returns-in_err-rows-clause-counts c =
    let p = err_from_is_err_and c.from_residual.result c.from_residual.ensures.1 in
    let e = c.self.inside in
    let vs = e.views.items in
    let s = state_of (tables_of e.tables.items) (views_of vs) e.writes e.drawn e.queue e.limits.max_rows in
    rw (← c.self.view_is, p.1) (inl (counted-all s vs))

pub returns-clause-counts : goal.returns-clause-counts
returns-clause-counts c =
    let e = c.self.inside in
    let vs = e.views.items in
    let s = state_of (tables_of e.tables.items) (views_of vs) e.writes e.drawn e.queue e.limits.max_rows in
    rw (← c.self.view_is) (counted-all s vs)
