use Rattle.std.proofs.Common.{ap, length, arith}
use Rattle.cq_sql_language.proofs.Cuts.{rows_counted}
use Rattle.cq_sql_language.proofs.constant_rows.ConstantRows.row.Goals as goal

-- there is a start for each row
pub bounds_of-start-requires-clause-there : goal.bounds_of-start-requires-clause-there
bounds_of-start-requires-clause-there c =
    let there = ap length c.self.view_is in
    omega (arith, c.requires, there, rows_counted c.self.inside.starts.items c.self.inside.constants.items, ap length c.as_slice.ensures.value)
