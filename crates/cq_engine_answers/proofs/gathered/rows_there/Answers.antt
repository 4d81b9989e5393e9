use Rattle.std.proofs.Common.{◌∙◌, ap, sym, subst}
use Rattle.cq_model_bags.specs.Canonical.{bag_of}
use Rattle.cq_table_columns.specs.Stored.{all_rows}
use Rattle.cq_model.specs.declared.query.Source.{Source}
use Rattle.cq_engine_answers.specs.Gathered.{AreRowsThere}
use Rattle.cq_engine_tables.proofs.Rows.{rows_numbered}
use Rattle.cq_engine_tables.specs.HeldTables.{tables_of}
use Rattle.cq_engine_tables.proofs.Held.{rows-held}
use Rattle.cq_engine_tables.proofs.HeldTables.{at_number}
use Rattle.cq_engine_answers.proofs.gathered.rows_there.Goals as goal

-- the rows of a table's number
pub returns-in-Table : goal.returns-in-Table
returns-in-Table c =
    let tables = tables_of c.args.tables.now in
    let t = c.index-tables-place_numbered.result.is in
    let at = c.place_numbered.ensures in
    let here = at_number c.args.tables.now c.place_numbered.result c.index-tables-place_numbered.result c.in-Table.number at.within c.index-tables-place_numbered.is (at.numbered c.index-tables-place_numbered.result) in
    let rows = rows_numbered tables c.place_numbered.result t c.requires.numbered.0 c.in-Table.number c.requires.numbered.1 here.0 here.1 here.2 in
    subst (λ (s : Source). AreRowsThere tables s c.args.shown.now (all_rows c.rows.result)) (sym c.in-Table.is) (ap bag_of c.rows.ensures.rows ∙ rows-held c.table.result.now c.index-tables-place_numbered.result c.table.ensures ∙ sym rows)
