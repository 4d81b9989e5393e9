use Rattle.std.proofs.Common.{◌∙◌, ap}
use Rattle.cq_table.specs.Table.{StoredTable, table_rows}
use Rattle.cq_engine_tables.specs.HeldTables.{held, lengths_of}
use Rattle.cq_engine_tables.proofs.Held.{none-held}
use Rattle.cq_engine_tables.proofs.named_table.NamedTable.new.Goals as goal

pub returns-clause-table : goal.returns-clause-table
returns-clause-table c = λ i. record {
  number = c.args.number;
  name = c.args.name;
  columns = ap (λ (t : StoredTable). t.columns) c.new.ensures i;
  sort = ap (λ (t : StoredTable). t.sort) c.new.ensures i;
  rows = (ap table_rows c.new.ensures ∙ none-held) i;
}

pub returns-clause-lengths : goal.returns-clause-lengths
returns-clause-lengths c = ap (λ (t : StoredTable). lengths_of (held c.args.number c.args.name t)) c.new.ensures
