use Rattle.std.proofs.Common.{ap, length, arith}
use Rattle.cq_values_rows.proofs.Cutting.{rows_counted}
use Rattle.cq_values_rows.proofs.flat.FlatRows.row.Goals as goal

-- there is an end for each row
pub bounds_of-start-requires-clause-there : goal.bounds_of-start-requires-clause-there
bounds_of-start-requires-clause-there c =
    let there = ap (λ flat. length flat.rows) c.self.view_is in
    omega (arith, c.requires, there, rows_counted 0 c.self.inside.ends.items c.self.inside.values.items, ap length c.as_slice.ensures.value)
