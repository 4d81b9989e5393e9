use Rattle.std.proofs.Common.{◌++◌, Bool, not, ap, arith, inl, length, refl, subst, sym}
use Rattle.std.proofs.lemmas.Result.{err_from_is_err_and}
use Rattle.cq_binder_rules.specs.declared.bound.Bound.TheVariants as commands
use Rattle.cq_engine_writes.proofs.Written.{inserted_bounded, inserted_fit}
use Rattle.cq_model_state.specs.State.{State, rows_in}
use Rattle.cq_model_step.specs.declared.answer.Answer.TheVariants.{Count}
use Rattle.cq_views.proofs.Standing.{standing-by_bags}
use Rattle.cq_engine_tables.specs.HeldTables.{tables_of}
use Rattle.cq_engine_tables.specs.Views.{views_of}
use Rattle.cq_engine.proofs.Kept.{all-within, behind-accepted, behind-order, none-asked, room-told, same-state}
use Rattle.cq_engine.proofs.Lengths.{same-lengths}
use Rattle.cq_engine.specs.Commands.{IsInOrder, state_of}
use Rattle.cq_engine.proofs.Counted.{counted-all}
use Rattle.cq_engine.proofs.engine.Engine.insert.Goals as goal

-- a write that is refused changes nothing
pub invariant_of-self : goal.invariant_of-self
invariant_of-self c =
    let e = c.self.inside in
    let tables = tables_of e.tables.items in
    let vs = e.views.items in
    let s = state_of tables (views_of vs) e.writes e.drawn e.queue e.limits.max_rows in
    let same = same-state tables (tables_of c.insert_in.new.tables.items) (views_of vs) e.writes e.drawn e.limits.max_rows e.queue c.insert_in.new.queue (ap tables_of c.in_err-change.ensures.err) c.insert_in.ensures.queue in
    subst (λ (t : State). IsInOrder t vs) (sym same) c.self.invariant

pub returns-in_err-change-clause-done : goal.returns-in_err-change-clause-done
returns-in_err-change-clause-done c =
    let p = err_from_is_err_and c.from_residual.result c.from_residual.ensures.1 in
    let e = c.self.inside in
    let tables = tables_of e.tables.items in
    let vs = e.views.items in
    let s = state_of tables (views_of vs) e.writes e.drawn e.queue e.limits.max_rows in
    let same = same-state tables (tables_of c.insert_in.new.tables.items) (views_of vs) e.writes e.drawn e.limits.max_rows e.queue c.insert_in.new.queue (ap tables_of c.in_err-change.ensures.err) c.insert_in.ensures.queue in
    rw (← c.self.view_is, p.1, p.2) (inl (c.in_err-change.ensures.inserts, same))

-- each view is at an epoch of the queue, and where there are views, the change is told
pub note-requires-clause-within : goal.note-requires-clause-within
note-requires-clause-within c =
    let e = c.self.inside in
    let tables = tables_of e.tables.items in
    let vs = e.views.items in
    let s = state_of tables (views_of vs) e.writes e.drawn e.queue e.limits.max_rows in
    rw c.deref.ensures.value (all-within s c.insert_in.new.queue c.insert_in.ensures.queue.passed c.insert_in.ensures.queue.changes c.self.invariant.history.sound.whole vs c.self.invariant.right)

pub note-requires-clause-room : goal.note-requires-clause-room
note-requires-clause-room c = room-told c.in_ok-change.change _ c.insert_in.new.queue.room c.in_ok-change.ensures.change.there c.in_ok-change.ensures.room

pub note-requires-clause-told : goal.note-requires-clause-told
note-requires-clause-told c = rw c.deref.ensures.value (none-asked c.self.inside.views.items _ _ c.in_ok-change.change c.self.inside.views.ok.0 (ap (λ (b : Bool). not b) c.is_empty-asked.ensures) c.in_ok-change.ensures.change.there)

pub note-requires-clause-range : goal.note-requires-clause-range
note-requires-clause-range c =
    let drawn = rw (← c.self.view_is) at c.requires.drawn in
    omega (arith, drawn, c.insert_in.ensures.queue.passed, ap length c.insert_in.ensures.queue.changes, c.self.invariant.history.sound.whole, c.self.invariant.history.sound.drawn)

pub invariant_of-self-2 : goal.invariant_of-self-2
invariant_of-self-2 c =
    let e = c.self.inside in
    let tables = tables_of e.tables.items in
    let vs = e.views.items in
    let s = state_of tables (views_of vs) e.writes e.drawn e.queue e.limits.max_rows in
    let told = c.in_ok-change.change in
    let bound = rw (← c.self.view_is) at c.requires.bound in
    let drawn = rw (← c.self.view_is) at c.requires.drawn in
    let none = none-asked vs _ _ told e.views.ok.0 (ap (λ (b : Bool). not b) c.is_empty-asked.ensures) c.in_ok-change.ensures.change.there in
    let notes = rw c.deref.ensures.value at c.note.ensures in
    let rows = rows_in tables c.args.table ++ c.args.rows in
    let command = commands.Insert c.args.table c.args.rows in
    let accepted = behind-accepted standing-by_bags s vs c.self.invariant refl c.args.table rows _ told c.insert_in.new.queue c.note.new.queue c.insert_in.ensures.queue.passed c.insert_in.ensures.queue.changes none c.in_ok-change.ensures.change notes command (Count c.len-count.result) (λ w. (ap Count c.len-count.ensures.len, w)) in
    rw c.in_ok-change.ensures.inserts.1 (behind-order standing-by_bags s vs c.self.invariant refl c.args.table rows _ told c.insert_in.new.queue c.note.new.queue c.insert_in.ensures.queue.passed c.insert_in.ensures.queue.changes none c.in_ok-change.ensures.change notes command (Count c.len-count.result) bound.0 bound.0 accepted e.limits.in_range.1
    (omega (arith, drawn, c.self.invariant.history.sound.drawn)) (inserted_fit c.args.table c.args.rows tables e.drawn c.self.invariant.history.sound.numbered c.self.invariant.fitting bound.1) (inserted_bounded c.args.table c.args.rows tables e.limits.max_rows c.in_ok-change.ensures.inserts.0 c.self.invariant.limited))

pub returns-clause-done : goal.returns-clause-done
returns-clause-done c =
    let e = c.self.inside in
    let tables = tables_of e.tables.items in
    let vs = e.views.items in
    let s = state_of tables (views_of vs) e.writes e.drawn e.queue e.limits.max_rows in
    let told = c.in_ok-change.change in
    let none = none-asked vs _ _ told e.views.ok.0 (ap (λ (b : Bool). not b) c.is_empty-asked.ensures) c.in_ok-change.ensures.change.there in
    let notes = rw c.deref.ensures.value at c.note.ensures in
    let rows = rows_in tables c.args.table ++ c.args.rows in
    let command = commands.Insert c.args.table c.args.rows in
    rw (← c.self.view_is, c.in_ok-change.ensures.inserts.1) (c.in_ok-change.ensures.inserts.0, behind-accepted standing-by_bags s vs c.self.invariant refl c.args.table rows _ told c.insert_in.new.queue c.note.new.queue c.insert_in.ensures.queue.passed c.insert_in.ensures.queue.changes none c.in_ok-change.ensures.change notes command (Count c.len-count.result) (λ w. (ap Count c.len-count.ensures.len, w)))

pub returns-in_err-change-clause-stores : goal.returns-in_err-change-clause-stores
returns-in_err-change-clause-stores c =
    let p = err_from_is_err_and c.from_residual.result c.from_residual.ensures.1 in
    rw (← c.self.view_is, p.1) (same-lengths c.self.inside.tables.items c.insert_in.new.tables.items c.in_err-change.ensures.err)

pub returns-clause-stores : goal.returns-clause-stores
returns-clause-stores c = rw (← c.self.view_is, c.len-count.ensures.len) c.in_ok-change.ensures.lengths

pub returns-in_err-change-clause-counts : goal.returns-in_err-change-clause-counts
returns-in_err-change-clause-counts c =
    let p = err_from_is_err_and c.from_residual.result c.from_residual.ensures.1 in
    let e = c.self.inside in
    let vs = e.views.items in
    let s = state_of (tables_of e.tables.items) (views_of vs) e.writes e.drawn e.queue e.limits.max_rows in
    rw (← c.self.view_is, p.1) (inl (counted-all s vs))

pub returns-clause-counts : goal.returns-clause-counts
returns-clause-counts c =
    let e = c.self.inside in
    let vs = e.views.items in
    let s = state_of (tables_of e.tables.items) (views_of vs) e.writes e.drawn e.queue e.limits.max_rows in
    rw (← c.self.view_is) (counted-all s vs)
