use Rattle.std.proofs.Common.{length, sym, subst}
use Rattle.cq_model.specs.declared.query.Source.{Source}
use Rattle.cq_engine.proofs.TableColumns.{width-numbered}
use Rattle.cq_engine.specs.TableWidths.{IsTableThere}
use Rattle.cq_engine_tables.specs.Views.{IsWide}
use Rattle.cq_engine_tables.specs.HeldTables.{tables_of}
use Rattle.cq_engine_tables.proofs.Held.{columns-held}
use Rattle.cq_engine_tables.proofs.HeldTables.{at_number}
use Rattle.cq_engine.proofs.table_widths.width_of.Goals as goal

-- the table at the place has the columns of its number
pub returns-in-Table : goal.returns-in-Table
returns-in-Table c =
    let tables = tables_of c.args.tables.now in
    let t = c.index-tables-place.result.is in
    let at = c.place_numbered-place.ensures in
    let here = at_number c.args.tables.now c.place_numbered-place.result c.index-tables-place.result c.in-Table.number at.within c.index-tables-place.is (at.numbered c.index-tables-place.result) in
    subst (λ (s : Source). IsWide tables s (length c.columns.result.now)) (sym c.in-Table.is)
    (rw (c.columns.ensures, columns-held c.table.result.now c.index-tables-place.result c.table.ensures)
    (width-numbered tables c.place_numbered-place.result t c.requires.numbered.0 c.in-Table.number c.requires.numbered.1 here.0 here.1 here.2))

-- no view is named
pub returns-in-View : goal.returns-in-View
returns-in-View c = subst (λ (s : Source). IsWide (tables_of c.args.tables.now) s 0) (sym c.in-View.is) (subst (IsTableThere (tables_of c.args.tables.now)) c.in-View.is c.requires.there)
