use Rattle.std.proofs.Common.{sym, ◌∙◌}
use Rattle.cq_table_columns.specs.Stored.{all_rows}
use Rattle.cq_engine.proofs.Entries.{gathered_before, gathers_also, there_same}
use Rattle.cq_engine_tables.specs.HeldTables.{tables_of}
use Rattle.cq_engine.proofs.gathering.gather.Goals as goal

-- the source has an entry already
pub returns-then-is_gathered : goal.returns-then-is_gathered
returns-then-is_gathered c =
    let there = rw c.deref.ensures.value at c.is_gathered.ensures in
    gathered_before (tables_of c.args.tables.now) c.args.source c.args.gathered.now.items (sym there ∙ c.if-is_gathered.true)

-- its entry has the rows of its table
pub returns : goal.returns
returns c =
    let tables = tables_of c.args.tables.now in
    let source = c.args.source in
    let rows = c.rows_there-rows.result in
    let there = rw c.deref.ensures.value at c.is_gathered.ensures in
    rw c.in_ok-push.ensures.items
    (gathers_also tables (record { source = source; rows = rows }) c.args.gathered.now.items
    (sym there ∙ c.if-is_gathered.false) (there_same tables source (all_rows rows) c.rows_there-rows.ensures))
