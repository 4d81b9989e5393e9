use Rattle.std.proofs.Common.{◌≡◌, ℕ, List, length, subst, sym, ◌≤◌}
use Rattle.std.specs.Prelude.{IfOk}
use Rattle.std.specs.List.{AllByRecursion}
use Rattle.cq_values.specs.Value.{Row}
use Rattle.cq_model.specs.Write.{chosen, left_by}
use Rattle.cq_model.specs.Width.{IsNarrowIn}
use Rattle.cq_model_state.specs.Fitting.{IsFitting, rows_limit}
use Rattle.cq_model_state.specs.State.{TableOf}
use Rattle.cq_engine_tables.proofs.Rows.{rows_numbered}
use Rattle.cq_engine_writes.proofs.Written.{so_numbered, written-number}
use Rattle.cq_engine_tables.specs.HeldTables.{MarkIn, tables_of}
use Rattle.cq_engine_tables.proofs.HeldTables.{at_number, change-written, tables_set}
use Rattle.cq_engine_writes.specs.Changing.{Tells}
use Rattle.cq_model_bags.proofs.Lists.{all-at}
use Rattle.cq_engine_writes.proofs.writing.delete_in.Goals as goal

pub delete_from-requires-clause-few : goal.delete_from-requires-clause-few
delete_from-requires-clause-few c =
    let t = c.index_mut.result.now.is in
    let at = rw c.deref.ensures.value at c.place_numbered-place.ensures in
    let here = at_number c.args.tables.now.items c.place_numbered-place.result c.index_mut.result.now c.args.number at.within c.index_mut.ensures.value (at.numbered c.index_mut.result.now) in
    subst (λ (x : TableOf). length x.rows ≤ rows_limit) (sym here.1) (all-at (λ x. length x.rows ≤ rows_limit) (tables_of c.args.tables.now.items) c.place_numbered-place.result t here.0 c.requires.limited)

pub delete_from-requires-clause-narrow : goal.delete_from-requires-clause-narrow
delete_from-requires-clause-narrow c =
    let t = c.index_mut.result.now.is in
    let at = rw c.deref.ensures.value at c.place_numbered-place.ensures in
    let here = at_number c.args.tables.now.items c.place_numbered-place.result c.index_mut.result.now c.args.number at.within c.index_mut.ensures.value (at.numbered c.index_mut.result.now) in
    let rows = rows_numbered (tables_of c.args.tables.now.items) c.place_numbered-place.result t c.requires.numbered.0 c.args.number c.requires.numbered.1 here.0 here.1 here.2 in
    subst (λ (rs : List Row). AllByRecursion (IsNarrowIn c.args.condition.now) rs) rows c.requires.narrow

pub returns-clause-count : goal.returns-clause-count
returns-clause-count c =
    let t = c.index_mut.result.now.is in
    let at = rw c.deref.ensures.value at c.place_numbered-place.ensures in
    let here = at_number c.args.tables.now.items c.place_numbered-place.result c.index_mut.result.now c.args.number at.within c.index_mut.ensures.value (at.numbered c.index_mut.result.now) in
    let rows = rows_numbered (tables_of c.args.tables.now.items) c.place_numbered-place.result t c.requires.numbered.0 c.args.number c.requires.numbered.1 here.0 here.1 here.2 in
    subst (λ (rs : List Row). IfOk c.delete_from.result (λ done. done.0 ≡ length (chosen c.args.condition.now rs))) (sym rows) c.delete_from.ensures.count

pub returns-clause-left : goal.returns-clause-left
returns-clause-left c =
    let t = c.index_mut.result.now.is in
    let at = rw c.deref.ensures.value at c.place_numbered-place.ensures in
    let here = at_number c.args.tables.now.items c.place_numbered-place.result c.index_mut.result.now c.args.number at.within c.index_mut.ensures.value (at.numbered c.index_mut.result.now) in
    rw (tables_set c.args.tables.now.items c.place_numbered-place.result c.delete_from.new.table)
    (written-number c.requires.numbered.0 (tables_of c.args.tables.now.items) c.place_numbered-place.result t c.requires.numbered.1 here.0 here.1 c.args.number here.2
    c.delete_from.new.table.is (left_by c.args.condition.now) c.delete_from.result c.delete_from.ensures.left)

pub delete_from-requires-clause-fitting : goal.delete_from-requires-clause-fitting
delete_from-requires-clause-fitting c =
    let at = rw c.deref.ensures.value at c.place_numbered-place.ensures in
    let here = at_number c.args.tables.now.items c.place_numbered-place.result c.index_mut.result.now c.args.number at.within c.index_mut.ensures.value (at.numbered c.index_mut.result.now) in
    subst (λ (x : TableOf). IsFitting x) (sym here.1) (all-at IsFitting (tables_of c.args.tables.now.items) c.place_numbered-place.result c.index_mut.result.now.is here.0 c.requires.fitting)

pub returns-clause-lengths : goal.returns-clause-lengths
returns-clause-lengths c =
    let at = rw c.deref.ensures.value at c.place_numbered-place.ensures in
    change-written (λ _. MarkIn) c.args.number c.args.tables.now.items c.place_numbered-place.result c.requires.numbered.0 c.index_mut.result.now c.delete_from.new.table c.requires.numbered.1 at.within c.index_mut.ensures.value
    (at.numbered c.index_mut.result.now) (left_by c.args.condition.now c.index_mut.result.now.is.rows) c.delete_from.result c.delete_from.ensures.left c.delete_from.ensures.lengths

pub returns-clause-change : goal.returns-clause-change
returns-clause-change c =
    let at = rw c.deref.ensures.value at c.place_numbered-place.ensures in
    let here = at_number c.args.tables.now.items c.place_numbered-place.result c.index_mut.result.now c.args.number at.within c.index_mut.ensures.value (at.numbered c.index_mut.result.now) in
    so_numbered c.requires.numbered.0 (tables_of c.args.tables.now.items) c.place_numbered-place.result c.index_mut.result.now.is c.requires.numbered.1 here.0 here.1 c.args.number here.2
    (λ (m : ℕ) (rs : List Row). IfOk c.delete_from.result (λ done. Tells c.args.asked m rs (left_by c.args.condition.now rs) done.1)) c.delete_from.ensures.change
