use Rattle.std.proofs.Common.{ℕ, List, ◌++◌, length, subst, sym}
use Rattle.std.specs.Prelude.{IfOk}
use Rattle.std.specs.List.{AllByRecursion}
use Rattle.cq_values.specs.Value.{Row}
use Rattle.cq_values.specs.declared.column.ColumnDef.{ColumnDef}
use Rattle.cq_model_state.specs.Fitting.{FitsColumns, IsFitting}
use Rattle.cq_model_state.specs.State.{TableOf}
use Rattle.cq_engine_tables.proofs.Rows.{columns_numbered}
use Rattle.cq_engine_writes.proofs.Written.{inserted_rows, inserts_here, so_numbered}
use Rattle.cq_engine_tables.specs.HeldTables.{GrowBy, tables_of}
use Rattle.cq_engine_tables.proofs.HeldTables.{at_number, change-written, tables_set}
use Rattle.cq_engine_writes.specs.Changing.{Tells}
use Rattle.cq_model_bags.proofs.Lists.{all-at}
use Rattle.cq_engine_writes.proofs.writing.insert_in.Goals as goal

pub insert_into-requires-clause-rows : goal.insert_into-requires-clause-rows
insert_into-requires-clause-rows c =
    let t = c.index_mut.result.now.is in
    let at = rw c.deref.ensures.value at c.place_numbered-place.ensures in
    let here = at_number c.args.tables.now.items c.place_numbered-place.result c.index_mut.result.now c.args.number at.within c.index_mut.ensures.value (at.numbered c.index_mut.result.now) in
    let columns = columns_numbered (tables_of c.args.tables.now.items) c.place_numbered-place.result t c.requires.numbered.0 c.args.number c.requires.numbered.1 here.0 here.1 here.2 in
    subst (λ (cs : List ColumnDef). AllByRecursion (FitsColumns cs) c.args.rows) columns c.requires.rows

pub returns-clause-inserts : goal.returns-clause-inserts
returns-clause-inserts c =
    let t = c.index_mut.result.now.is in
    let at = rw c.deref.ensures.value at c.place_numbered-place.ensures in
    let here = at_number c.args.tables.now.items c.place_numbered-place.result c.index_mut.result.now c.args.number at.within c.index_mut.ensures.value (at.numbered c.index_mut.result.now) in
    rw (tables_set c.args.tables.now.items c.place_numbered-place.result c.insert_into.new.table)
    (inserts_here c.requires.numbered.0 (tables_of c.args.tables.now.items) c.place_numbered-place.result t c.requires.numbered.1 here.0 here.1 c.args.number here.2
    c.args.max_rows c.args.rows c.insert_into.new.table.is c.insert_into.result c.insert_into.ensures.inserts)

pub insert_into-requires-clause-fitting : goal.insert_into-requires-clause-fitting
insert_into-requires-clause-fitting c =
    let at = rw c.deref.ensures.value at c.place_numbered-place.ensures in
    let here = at_number c.args.tables.now.items c.place_numbered-place.result c.index_mut.result.now c.args.number at.within c.index_mut.ensures.value (at.numbered c.index_mut.result.now) in
    subst (λ (x : TableOf). IsFitting x) (sym here.1) (all-at IsFitting (tables_of c.args.tables.now.items) c.place_numbered-place.result c.index_mut.result.now.is here.0 c.requires.fitting)

pub returns-clause-lengths : goal.returns-clause-lengths
returns-clause-lengths c =
    let at = rw c.deref.ensures.value at c.place_numbered-place.ensures in
    change-written (λ _. GrowBy (length c.args.rows)) c.args.number c.args.tables.now.items c.place_numbered-place.result c.requires.numbered.0 c.index_mut.result.now c.insert_into.new.table c.requires.numbered.1 at.within c.index_mut.ensures.value
    (at.numbered c.index_mut.result.now) (c.index_mut.result.now.is.rows ++ c.args.rows) c.insert_into.result (inserted_rows c.args.max_rows c.args.rows c.index_mut.result.now.is c.insert_into.new.table.is c.insert_into.result c.insert_into.ensures.inserts) c.insert_into.ensures.lengths

pub returns-clause-change : goal.returns-clause-change
returns-clause-change c =
    let at = rw c.deref.ensures.value at c.place_numbered-place.ensures in
    let here = at_number c.args.tables.now.items c.place_numbered-place.result c.index_mut.result.now c.args.number at.within c.index_mut.ensures.value (at.numbered c.index_mut.result.now) in
    so_numbered c.requires.numbered.0 (tables_of c.args.tables.now.items) c.place_numbered-place.result c.index_mut.result.now.is c.requires.numbered.1 here.0 here.1 c.args.number here.2
    (λ (m : ℕ) (rs : List Row). IfOk c.insert_into.result (Tells c.args.asked m rs (rs ++ c.args.rows))) c.insert_into.ensures.change
