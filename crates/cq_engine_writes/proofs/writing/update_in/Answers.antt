use Rattle.std.proofs.Common.{ℕ, List, Option, length, subst, ◌≤◌, sym}
use Rattle.std.specs.Prelude.{IfOk}
use Rattle.cq_values.specs.Value.{Row}
use Rattle.cq_model.specs.Write.{updated}
use Rattle.cq_model_state.specs.Fitting.{IsFitting, rows_limit}
use Rattle.cq_model_state.specs.State.{ChangeOf, TableOf}
use Rattle.cq_engine_writes.proofs.Updates.{can_here, updates_here, updates_rows}
use Rattle.cq_engine_writes.proofs.Written.{so_numbered}
use Rattle.cq_engine_tables.specs.HeldTables.{ExchangeBy, tables_of}
use Rattle.cq_engine_tables.proofs.HeldTables.{at_number, change-written, tables_set}
use Rattle.cq_engine_writes.specs.Changing.{Tells}
use Rattle.cq_model_bags.proofs.Lists.{all-at}
use Rattle.cq_engine_writes.proofs.writing.update_in.Goals as goal

pub update_rows-requires-clause-few : goal.update_rows-requires-clause-few
update_rows-requires-clause-few c =
    let t = c.index_mut.result.now.is in
    let at = rw c.deref.ensures.value at c.place_numbered-place.ensures in
    let here = at_number c.args.tables.now.items c.place_numbered-place.result c.index_mut.result.now c.args.number at.within c.index_mut.ensures.value (at.numbered c.index_mut.result.now) in
    subst (λ (x : TableOf). length x.rows ≤ rows_limit) (sym here.1) (all-at (λ x. length x.rows ≤ rows_limit) (tables_of c.args.tables.now.items) c.place_numbered-place.result t here.0 c.requires.limited)

pub update_rows-requires-clause-can : goal.update_rows-requires-clause-can
update_rows-requires-clause-can c =
    let t = c.index_mut.result.now.is in
    let at = rw c.deref.ensures.value at c.place_numbered-place.ensures in
    let here = at_number c.args.tables.now.items c.place_numbered-place.result c.index_mut.result.now c.args.number at.within c.index_mut.ensures.value (at.numbered c.index_mut.result.now) in
    can_here c.requires.numbered.0 (tables_of c.args.tables.now.items) c.place_numbered-place.result t c.requires.numbered.1 here.0 here.1 c.args.number here.2
    c.args.assignments.now c.args.condition.now c.requires.can

pub returns-clause-updates : goal.returns-clause-updates
returns-clause-updates c =
    let t = c.index_mut.result.now.is in
    let at = rw c.deref.ensures.value at c.place_numbered-place.ensures in
    let here = at_number c.args.tables.now.items c.place_numbered-place.result c.index_mut.result.now c.args.number at.within c.index_mut.ensures.value (at.numbered c.index_mut.result.now) in
    rw (tables_set c.args.tables.now.items c.place_numbered-place.result c.update_rows.new.table)
    (updates_here c.requires.numbered.0 (tables_of c.args.tables.now.items) c.place_numbered-place.result t c.requires.numbered.1 here.0 here.1 c.args.number here.2
    c.args.assignments.now c.args.condition.now c.update_rows.new.table.is c.update_rows.result c.update_rows.ensures.updates)

pub update_rows-requires-clause-fitting : goal.update_rows-requires-clause-fitting
update_rows-requires-clause-fitting c =
    let at = rw c.deref.ensures.value at c.place_numbered-place.ensures in
    let here = at_number c.args.tables.now.items c.place_numbered-place.result c.index_mut.result.now c.args.number at.within c.index_mut.ensures.value (at.numbered c.index_mut.result.now) in
    subst (λ (x : TableOf). IsFitting x) (sym here.1) (all-at IsFitting (tables_of c.args.tables.now.items) c.place_numbered-place.result c.index_mut.result.now.is here.0 c.requires.fitting)

pub returns-clause-lengths : goal.returns-clause-lengths
returns-clause-lengths c =
    let at = rw c.deref.ensures.value at c.place_numbered-place.ensures in
    change-written (λ (done : ℕ × Option ChangeOf). ExchangeBy done.0) c.args.number c.args.tables.now.items c.place_numbered-place.result c.requires.numbered.0 c.index_mut.result.now c.update_rows.new.table c.requires.numbered.1 at.within c.index_mut.ensures.value
    (at.numbered c.index_mut.result.now) (updated c.args.assignments.now c.args.condition.now c.index_mut.result.now.is.rows) c.update_rows.result
    (updates_rows c.args.assignments.now c.args.condition.now c.index_mut.result.now.is c.update_rows.new.table.is c.update_rows.result c.update_rows.ensures.updates) c.update_rows.ensures.lengths

pub returns-clause-change : goal.returns-clause-change
returns-clause-change c =
    let at = rw c.deref.ensures.value at c.place_numbered-place.ensures in
    let here = at_number c.args.tables.now.items c.place_numbered-place.result c.index_mut.result.now c.args.number at.within c.index_mut.ensures.value (at.numbered c.index_mut.result.now) in
    so_numbered c.requires.numbered.0 (tables_of c.args.tables.now.items) c.place_numbered-place.result c.index_mut.result.now.is c.requires.numbered.1 here.0 here.1 c.args.number here.2
    (λ (m : ℕ) (rs : List Row). IfOk c.update_rows.result (λ done. Tells c.args.asked m rs (updated c.args.assignments.now c.args.condition.now rs) done.1)) c.update_rows.ensures.change
