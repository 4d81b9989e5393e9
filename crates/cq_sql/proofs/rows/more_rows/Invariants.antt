use Rattle.std.proofs.Common.{◌≡◌, ◌-◌}
use Rattle.cq_sql_expressions.specs.declared.leads.Lead.TheVariants as leads
use Rattle.cq_sql_expressions.specs.Lists.{chain_from, led}
use Rattle.cq_sql.specs.Parts.{row_at}
use Rattle.cq_sql.specs.Rows.{more_rows_at}
use Rattle.cq_sql.proofs.rows.more_rows.Given as goal

-- the rows so far and what is still read make the whole
abbrev pub invariant-loop : goal.invariant-loop
invariant-loop l = chain_from (led leads.Comma row_at) (l.end - l.counter) l.rows l.rest ≡ more_rows_at l.fn.rows l.tokens
