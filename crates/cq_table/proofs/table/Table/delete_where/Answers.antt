use Rattle.std.proofs.Common.{◌∙◌}
use Rattle.cq_table.proofs.Tables.{found-count}
use Rattle.cq_table.proofs.table.Table.delete_where.Goals as goal

pub returns-clause-count : goal.returns-clause-count
returns-clause-count c = c.len.ensures ∙ found-count c.args.self.now c.args.condition.now c.in_ok-found.found c.in_ok-found.ensures.found

pub returns-clause-marks : goal.returns-clause-marks
returns-clause-marks c = record { places = c.in_ok-found.found; found = c.in_ok-found.ensures.found; marked = c.delete.ensures.marks }
